use Rattle.std.specs.Prelude.{◌≡◌, not, find}
use Rattle.micromap_core.specs.{Pairs.has, Same.first_missing}
use Rattle.micromap_core.proofs.map.Map.first_missing.Given as goal

-- the first such key of those that are left is that of all of them
abbrev pub invariant-loop-key : goal.invariant-loop-key
invariant-loop-key g l = find (λ k. not (has g.K.PartialEq.eq l.other k)) l.key-iterator
    ≡ first_missing g.K.PartialEq.eq g.V.PartialEq.eq l.self l.other
