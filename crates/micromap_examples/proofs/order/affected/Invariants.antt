use Rattle.std.specs.Prelude.{◌≡◌, ℕ, ◌-◌, length, nat_eq, true}
use Rattle.std.specs.Set.{is_member}
use Rattle.micromap.specs.Items.{IsItems}
use Rattle.micromap.specs.Pairs.{has}
use Rattle.micromap_examples.specs.Order.{DependsOn}
use Rattle.micromap_examples.proofs.order.affected.Given as goal

abbrev pub invariant-loop-next : goal.invariant-loop-next
invariant-loop-next g l = record {
  sound : (x : ℕ) → is_member nat_eq l.met x ≡ true → DependsOn l.plan x l.target;
  targets : (x : ℕ) → is_member nat_eq l.met x ≡ true → has nat_eq l.plan x ≡ true;
  content : IsItems nat_eq g.row.N l.met;
}

abbrev pub decreases-loop-next : goal.decreases-loop-next
decreases-loop-next g l = length l.plan - length l.met
