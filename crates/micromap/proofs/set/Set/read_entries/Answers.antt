use Rattle.micromap.proofs.Laws.SetStreamLemmas.{entries_of-keys, items_read_back}
use Rattle.micromap.proofs.set.Set.read_entries.Goals as goal

pub returns-in-Ok-clause-reads : goal.returns-in-Ok-clause-reads
returns-in-Ok-clause-reads g c = rw (entries_of-keys c.in-Ok.map) c.in-Ok.ensures.reads

pub returns-in-Ok-clause-round_trip : goal.returns-in-Ok-clause-round_trip
returns-in-Ok-clause-round_trip g c = items_read_back _ _ c.in-Ok.ensures.round_trip

pub returns-in-Err-clause-round_trip : goal.returns-in-Err-clause-round_trip
returns-in-Err-clause-round_trip g c = items_read_back _ _ c.in-Err.ensures.round_trip
