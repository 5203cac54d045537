use Rattle.std.specs.Prelude.{◌≡◌}
use Rattle.micromap_core.specs.Same.{first_unequal}
use Rattle.micromap_core.proofs.map.Map.first_unequal.Given as goal

-- the first such key of the pairs that are left is that of all of them
abbrev pub invariant-loop-key : goal.invariant-loop-key
invariant-loop-key g l = first_unequal g.K.PartialEq.eq g.V.PartialEq.eq l.key-iterator l.other
    ≡ first_unequal g.K.PartialEq.eq g.V.PartialEq.eq l.self l.other
