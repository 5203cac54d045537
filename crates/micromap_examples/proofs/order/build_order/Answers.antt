use Rattle.std.proofs.Common.{◌≡◌, ◌∙◌, ◌&&◌, nat_eq, not, arith, subst, sym, ap, true}
use Rattle.std.specs.List.{list_all}
use Rattle.std.specs.Set.{is_member}
use Rattle.micromap.specs.Pairs.{has}
use Rattle.micromap_examples.specs.Order.{is_blocked}
use Rattle.micromap_examples.proofs.OrderLemmas.{all_built, left_blocked, left_members}
use Rattle.micromap_examples.proofs.order.build_order.Goals as goal

pub returns-clause-all : goal.returns-clause-all
returns-clause-all g c = λ other. all_built c.args.plan.now c.order_of-order.result other c.order_of-order.ensures.complete

pub returns-clause-blocked : goal.returns-clause-blocked
returns-clause-blocked g c = subst (λ left. list_all (is_blocked c.args.plan.now c.order_of-order.result) left ≡ true) (sym c.left_of-left.ensures) (left_blocked c.args.plan.now c.order_of-order.result c.order_of-order.ensures.complete)

pub returns-clause-targets : goal.returns-clause-targets
returns-clause-targets g c = λ x.
    let left : is_member nat_eq c.left_of-left.result x ≡ (has nat_eq c.args.plan.now x && not (is_member nat_eq c.order_of-order.result x)) = ap (λ left. is_member nat_eq left x) c.left_of-left.ensures ∙ left_members c.args.plan.now c.order_of-order.result x in
    let target = c.order_of-order.ensures.targets x in
    grind (arith, left, target)

pub returns-clause-once : goal.returns-clause-once
returns-clause-once g c = λ x built.
    let left : is_member nat_eq c.left_of-left.result x ≡ (has nat_eq c.args.plan.now x && not (is_member nat_eq c.order_of-order.result x)) = ap (λ left. is_member nat_eq left x) c.left_of-left.ensures ∙ left_members c.args.plan.now c.order_of-order.result x in
    grind (arith, left, built)
