use Rattle.std.proofs.Common.{◌≡◌, ◌||◌, ◌∙◌, ap, false, sym, take}
use Rattle.std.specs.{List.list_any, Map.keys_of}
use Rattle.std.proofs.lemmas.{List.nil_from_length, List.take_all, List.Folds.list_any_more, Map.Keys.IsDistinct-cons}
use Rattle.micromap_core.proofs.{Laws.DistinctLemmas.fails_everywhere, Laws.DistinctLemmas.IsDistinct-nil, Laws.Views.any-map}
use Rattle.micromap_core.proofs.map.build.are_distinct.Goals as goal

pub loop-item-preserved : goal.loop-item-preserved
loop-item-preserved g c =
    let eq = g.K.PartialEq.eq in
    let item = c.in-Some.item.now in
    let later = c.as_slice-later-items.result.now in
    let rest = c.next.new.self.rest.now in
    let none : list_any (λ q. eq item.0 q.0) later ≡ false = ap (list_any (λ q. eq item.0 q.0))
    (sym (take_all c.loop-later.later-index later c.loop-later-test.false)) ∙ sym c.loop-later.invariant ∙ c.if-repeated.false in
    λ unique. c.loop-item.invariant (rw c.in-Some.ensures.steps (IsDistinct-cons eq item.0 (keys_of rest)
    (fails_everywhere (eq item.0) (keys_of rest) (any-map (λ p. p.0) (eq item.0) rest
    ∙ (rw c.as_slice-later-items.ensures.value at none))) unique))

pub loop-later-preserved : goal.loop-later-preserved
loop-later-preserved g c =
    let eq = g.K.PartialEq.eq in
    let item = c.in-Some.item.now in
    let later = c.as_slice-later-items.result.now in
    let index = c.loop-later.later-index in
    ap (λ b. b || c.eq-repeated.result) c.loop-later.invariant ∙ ap (λ b. list_any (λ q. eq item.0 q.0) (take index later) || b)
    (c.eq-repeated.ensures ∙ ap (λ q. eq item.0 q.0) c.later-item.is)
    ∙ sym (list_any_more (λ q. eq item.0 q.0) later index c.later-item.result c.loop-later-test.true)

pub returns : goal.returns
returns g c = λ _. c.loop-item.invariant (rw (nil_from_length c.loop-item.rest.rest.now c.in_default.ensures.steps.0)
    (IsDistinct-nil g.K.PartialEq.eq))
