use Rattle.std.specs.Prelude.{◌≡◌, take}
use Rattle.micromap.specs.Extend.{distinct}
use Rattle.micromap.proofs.set.build.SetFromArray.from.Given as goal

abbrev pub invariant-loop-index : goal.invariant-loop-index
invariant-loop-index g l = l.set ≡ distinct g.T.PartialEq.eq (take l.index l.items)
