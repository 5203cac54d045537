use Rattle.std.proofs.Common.{◌≡◌, ◌++◌, [], ◌∷◌, nat_eq, true, rules, arith, subst, sym, ◌∙◌}
use Rattle.std.specs.Set.{is_member}
use Rattle.micromap.proofs.Laws.SetLaws.{length_put_item, put_item_new}
use Rattle.micromap_examples.specs.Order.{IsOrdered}
use Rattle.micromap_examples.proofs.OrderLemmas.{fewer, is_ready-has, next_is_ready, none_is_next, room, targets_put, IsOrdered-append}
use Rattle.micromap_examples.proofs.order.order_of.Goals as goal

pub insert-requires : goal.insert-requires
insert-requires g c =
    let old = c.loop-target.invariant in
    let next = next_is_ready c.args.plan.now c.loop-target.built c.in-Some.target c.in-Some.ensures.content.unique c.in-Some.ensures.answer in
    let here = is_ready-has c.args.plan.now c.loop-target.built c.in-Some.target next.0 in
    let few = fewer c.args.plan.now c.loop-target.built c.in-Some.target g.row.N old.content old.targets here next.1 in
    (search rules, room c.args.plan.now c.loop-target.built c.in-Some.target g.row.N c.in-Some.ensures.content few)

pub loop-target-smaller : goal.loop-target-smaller
loop-target-smaller g c =
    let old = c.loop-target.invariant in
    let next = next_is_ready c.args.plan.now c.loop-target.built c.in-Some.target c.in-Some.ensures.content.unique c.in-Some.ensures.answer in
    let here = is_ready-has c.args.plan.now c.loop-target.built c.in-Some.target next.0 in
    let few = fewer c.args.plan.now c.loop-target.built c.in-Some.target g.row.N old.content old.targets here next.1 in
    let new = next.1 in
    let items = c.insert.ensures.items in
    grind (arith, few, new, items, length_put_item nat_eq c.loop-target.built c.in-Some.target)

pub loop-target-preserved : goal.loop-target-preserved
loop-target-preserved g c =
    let old = c.loop-target.invariant in
    let next = next_is_ready c.args.plan.now c.loop-target.built c.in-Some.target c.in-Some.ensures.content.unique c.in-Some.ensures.answer in
    let here = is_ready-has c.args.plan.now c.loop-target.built c.in-Some.target next.0 in
    let last : c.insert.new.self ≡ c.loop-target.built ++ c.in-Some.target ∷ [] = c.insert.ensures.items ∙ put_item_new nat_eq c.loop-target.built c.in-Some.target next.1 in
    record {
      ordered = subst (IsOrdered c.args.plan.now) (sym last) (IsOrdered-append c.args.plan.now c.loop-target.built c.in-Some.target old.ordered next.0);
      targets = λ x there. targets_put c.args.plan.now c.loop-target.built c.in-Some.target old.targets here x (subst (λ l. is_member nat_eq l x ≡ true) c.insert.ensures.items there);
      content = c.insert.ensures.content.1;
    }

pub returns-clause-complete : goal.returns-clause-complete
returns-clause-complete g c = λ target. none_is_next c.args.plan.now c.loop-target.built target (sym c.next_ready.ensures.answer ∙ c.in_default.is)
