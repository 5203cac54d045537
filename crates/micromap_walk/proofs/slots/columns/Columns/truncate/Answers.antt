use Rattle.std.proofs.Common.{◌∙◌, arith, take-take}
use Rattle.micromap_walk.proofs.slots.columns.Columns.truncate.Goals as goal

pub loop-self-preserved : goal.loop-self-preserved
loop-self-preserved g c = rw c.drop_last.ensures (take-take _ _ _ (omega arith) ∙ c.loop-self.invariant)
