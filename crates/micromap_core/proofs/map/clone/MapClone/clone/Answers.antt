use Rattle.std.proofs.lemmas.Bool.{false≢true}
use Rattle.micromap_core.proofs.map.clone.MapClone.clone.Goals as goal

pub returns-in-Err : goal.returns-in-Err
returns-in-Err g c = record { cases = λ all. absurd (false≢true (c.in-Err.ensures.succeeds all)) }
