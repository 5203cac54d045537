use Rattle.std.proofs.Common.{refl, sym, ap, ◌∙◌, string_bytes, string_eq, bytes_eq, arith, rules}
use Rattle.std.proofs.lemmas.List.{nil_from_length}
use Rattle.serde_json.specs.View.{items_view}
use Rattle.micromap.specs.{Items.put_item, Json.all_texts}
use Rattle.micromap.proofs.JsonReading.{not_read, read_beyond, read_one, read_past, read_whole}
use Rattle.micromap.proofs.Laws.SetLaws.{length_put_item, not_item_fits}
use Rattle.micromap.proofs.Laws.SetTextLaws.{item_texts_empty, item_texts_put_item, length_item_texts}
use Rattle.micromap.proofs.json.read.set_of_elements.Goals as goal

pub loop-element-init : goal.loop-element-init
loop-element-init g c = rw (
  c.into_iter-element-iterator.ensures.into_iter_gives.0,
  c.new-set.ensures.answer,
  item_texts_empty,
) (record { is = refl })

pub returns-in_default-clause-fault : goal.returns-in_default-clause-fault
returns-in_default-clause-fault g c = not_read c.loop-element.invariant (λ t. t) _ _
    (ap (λ vs. all_texts (items_view vs)) c.in-Some.ensures.steps.0) (search rules)

-- an item is put or doesn't fit where its text is or doesn't
pub loop-element-preserved-then-all_fit : goal.loop-element-preserved-then-all_fit
loop-element-preserved-then-all_fit g c =
    let items = c.loop-element.set in
    let text = c.in-Some-text_of.text in
    let put = item_texts_put_item string_bytes items string_eq text (λ x y. refl) in
    read_one c.loop-element.invariant (λ t. t) _ _
    (ap (λ vs. all_texts (items_view vs)) c.in-Some.ensures.steps.0) (string_bytes text) (search rules)
    (λ texts t. grind (arith, length_put_item bytes_eq texts t)) c.if-all_fit.true
    (λ fits. grind (arith, c.put-all_fit.ensures.answer, c.put-all_fit.ensures.items, fits, put)) (λ misfit. grind (
      arith,
      put,
      not_item_fits string_eq items text g.row.N (sym c.put-all_fit.ensures.answer ∙ misfit),
      length_put_item string_eq items text,
      length_item_texts string_bytes (put_item string_eq items text),
    ))

pub loop-element-preserved : goal.loop-element-preserved
loop-element-preserved g c = read_past c.loop-element.invariant (λ t. t) _ _
    (ap (λ vs. all_texts (items_view vs)) c.in-Some.ensures.steps.0) (string_bytes c.in-Some-text_of.text) (search rules) c.if-all_fit.false

pub returns-then-all_fit-2-clause-texts : goal.returns-then-all_fit-2-clause-texts
returns-then-all_fit-2-clause-texts g c = read_whole c.loop-element.invariant (ap (λ vs. all_texts (items_view vs))
    (nil_from_length c.loop-element.element-iterator.rest.items
    (sym c.loop-element.element-iterator.rest.ok.0 ∙ c.in-None.ensures.steps.0))) c.if-all_fit-2.true
    (omega (arith, c.len-known.ensures.content.bounded, length_item_texts string_bytes c.loop-element.set))

pub returns-else-all_fit-2-clause-fault : goal.returns-else-all_fit-2-clause-fault
returns-else-all_fit-2-clause-fault g c = read_beyond c.loop-element.invariant (ap (λ vs. all_texts (items_view vs))
    (nil_from_length c.loop-element.element-iterator.rest.items
    (sym c.loop-element.element-iterator.rest.ok.0 ∙ c.in-None.ensures.steps.0))) c.if-all_fit-2.false
