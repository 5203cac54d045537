use Rattle.std.specs.Prelude.{◌≡◌, ℕ, ◌-◌, length, nat_eq, true}
use Rattle.std.specs.Set.{is_member}
use Rattle.micromap.specs.Items.{IsItems}
use Rattle.micromap.specs.Pairs.{has}
use Rattle.micromap_examples.specs.Order.{IsOrdered}
use Rattle.micromap_examples.proofs.order.order_of.Given as goal

abbrev pub invariant-loop-target : goal.invariant-loop-target
invariant-loop-target g l = record {
  ordered : IsOrdered l.plan l.built;
  targets : (target : ℕ) → is_member nat_eq l.built target ≡ true → has nat_eq l.plan target ≡ true;
  content : IsItems nat_eq g.row.N l.built;
}

abbrev pub decreases-loop-target : goal.decreases-loop-target
decreases-loop-target g l = length l.plan - length l.built
