use Rattle.std.specs.Prelude.{◌≡◌}
use Rattle.std.specs.List.{find}
use Rattle.micromap_examples.specs.Order.{is_next}
use Rattle.micromap_examples.proofs.order.next_ready.Given as goal

-- the first of all targets that is next is the first of those still to come
abbrev pub invariant-loop-target : goal.invariant-loop-target
invariant-loop-target g l = find (is_next l.built) l.plan ≡ find (is_next l.built) l.target-iterator
