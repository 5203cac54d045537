use Rattle.std.specs.Prelude.{◌≡◌, take}
use Rattle.micromap_walk.proofs.slots.columns.Columns.copied.Given as goal

-- the copy has the first pairs
abbrev pub invariant-loop-index : goal.invariant-loop-index
invariant-loop-index g l = l.copy ≡ take l.index l.self
