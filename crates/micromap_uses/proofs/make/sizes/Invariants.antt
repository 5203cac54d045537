use Rattle.std.specs.Prelude.{◌≡◌, ◌+◌, ◌≤◌, ◌++◌, length, map}
use Rattle.micromap_uses.proofs.make.sizes.Given as goal

-- what is made so far and what is made of the pairs left is the whole, and there is room for all that are left
abbrev pub invariant-loop-group : goal.invariant-loop-group
invariant-loop-group l = (l.sizes ++ map (λ p. (p.0, length p.1)) l.group-iterator ≡ map (λ p. (p.0, length p.1)) l.groups)
    × (length l.sizes + length l.group-iterator ≤ length l.groups)
