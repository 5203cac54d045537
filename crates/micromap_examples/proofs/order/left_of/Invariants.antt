use Rattle.std.specs.Prelude.{◌≡◌, ◌+◌, ◌≤◌, ◌++◌, filter, length, nat_eq, not}
use Rattle.std.specs.Map.{keys_of}
use Rattle.std.specs.Set.{is_member}
use Rattle.micromap_examples.proofs.order.left_of.Given as goal

-- the targets so far and those still to come that aren't built are all that aren't, and there is room for all still to come
abbrev pub invariant-loop-target : goal.invariant-loop-target
invariant-loop-target g l = (l.left ++ filter (λ target. not (is_member nat_eq l.built target)) l.target-iterator ≡ filter (λ target. not (is_member nat_eq l.built target)) (keys_of l.plan))
    × (length l.left + length l.target-iterator ≤ length l.plan)
