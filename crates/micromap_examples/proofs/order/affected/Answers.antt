use Rattle.std.proofs.Common.{◌≡◌, nat_eq, true, rules, arith, subst, sym, ◌∙◌}
use Rattle.std.specs.Set.{is_member}
use Rattle.micromap.proofs.Laws.SetLaws.{length_put_item}
use Rattle.micromap_examples.proofs.OrderLemmas.{all_met, depends_put, fewer, next_depends, room, targets_put}
use Rattle.micromap_examples.proofs.order.affected.Goals as goal

pub insert-requires : goal.insert-requires
insert-requires g c =
    let old = c.loop-next.invariant in
    let next = next_depends c.args.plan.now c.args.target c.loop-next.met c.in-Some.next c.in-Some.ensures.content.unique old.sound c.in-Some.ensures.answer in
    let few = fewer c.args.plan.now c.loop-next.met c.in-Some.next g.row.N old.content old.targets next.0 next.1 in
    (search rules, room c.args.plan.now c.loop-next.met c.in-Some.next g.row.N c.in-Some.ensures.content few)

pub loop-next-smaller : goal.loop-next-smaller
loop-next-smaller g c =
    let old = c.loop-next.invariant in
    let next = next_depends c.args.plan.now c.args.target c.loop-next.met c.in-Some.next c.in-Some.ensures.content.unique old.sound c.in-Some.ensures.answer in
    let few = fewer c.args.plan.now c.loop-next.met c.in-Some.next g.row.N old.content old.targets next.0 next.1 in
    let new = next.1 in
    let items = c.insert.ensures.items in
    grind (arith, few, new, items, length_put_item nat_eq c.loop-next.met c.in-Some.next)

pub loop-next-preserved : goal.loop-next-preserved
loop-next-preserved g c =
    let old = c.loop-next.invariant in
    let next = next_depends c.args.plan.now c.args.target c.loop-next.met c.in-Some.next c.in-Some.ensures.content.unique old.sound c.in-Some.ensures.answer in
    record {
      sound = λ x there. depends_put c.args.plan.now c.args.target c.loop-next.met c.in-Some.next old.sound next.2 x (subst (λ l. is_member nat_eq l x ≡ true) c.insert.ensures.items there);
      targets = λ x there. targets_put c.args.plan.now c.loop-next.met c.in-Some.next old.targets next.0 x (subst (λ l. is_member nat_eq l x ≡ true) c.insert.ensures.items there);
      content = c.insert.ensures.content.1;
    }

pub returns : goal.returns
returns g c = λ x.
    (c.loop-next.invariant.sound x, all_met c.args.plan.now c.args.target c.loop-next.met x (sym c.next_affected.ensures.answer ∙ c.in_default.is))
