use Rattle.std.specs.Prelude.{◌≡◌}
use Rattle.std.specs.List.{find}
use Rattle.micromap_examples.specs.Order.{is_next_affected}
use Rattle.micromap_examples.proofs.order.next_affected.Given as goal

-- the first of all targets that is next is the first of those still to come
abbrev pub invariant-loop-next : goal.invariant-loop-next
invariant-loop-next g l = find (is_next_affected l.target l.met) l.plan ≡ find (is_next_affected l.target l.met) l.next-iterator
