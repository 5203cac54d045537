use Rattle.micromap.proofs.Laws.SetStreamLaws.{items_read}
use Rattle.micromap_tests.proofs.tests.streams.items_of.Goals as goal

pub returns-in-Ok : goal.returns-in-Ok
returns-in-Ok g c = rw (← c.over.ensures) (items_read _ c.in-Ok.ensures.reads)
