use Rattle.std.proofs.lemmas.Bool.{false≢true}
use Rattle.micromap_core.proofs.map.clone.MapEqualClone.equal_clone.Goals as goal

pub returns-in-Err : goal.returns-in-Err
returns-in-Err g c = λ all. false≢true (c.in-Err.ensures.succeeds all)
