use Rattle.std.proofs.Common.{sym}
use Rattle.micromap_core.proofs.map.Map.last.Goals as goal

pub returns-in_default : goal.returns-in_default
returns-in_default g c = record { answer = rw (← c.len.ensures.answer) (sym c.pair_at.ensures) }
