use Rattle.std.specs.Prelude.{◌≡◌, length, take}
use Rattle.micromap_walk.proofs.slots.columns.Columns.truncate.Given as goal

abbrev pub invariant-loop-self : goal.invariant-loop-self
invariant-loop-self g l = take l.len l.self ≡ take l.len l.fn.self

abbrev pub decreases-loop-self : goal.decreases-loop-self
decreases-loop-self g l = length l.self
