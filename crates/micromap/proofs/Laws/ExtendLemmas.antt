-- For proofs: a set into which items are put has one item for each distinct item.
use Rattle.std.proofs.Common.{ℕ, Bool, inl, inr, [], refl, ap, sym, arith, map-id}
use Rattle.std.specs.Set.{is_member, distinct_count}
use Rattle.std.proofs.lemmas.Bool.{cases_Bool}
use Rattle.micromap_core.proofs.Laws.KeyedLemmas.{IsKeyed}
use Rattle.micromap.specs.Items.{put_item, item_fits}

pub items_keyed : {T : Type 0} (eq : T → T → Bool) (N : ℕ)
    → IsKeyed eq N (item_fits eq N) (put_item eq) (λ items. items) (λ x. x) [] (distinct_count eq)
unfolding put_item
items_keyed eq N = record {
  cases = λ items x. elim (cases_Bool (is_member eq items x)) [
    | inl stored ↦ inl (stored, grind (arith, stored), grind (arith, stored))
    | inr new ↦ inr (new, grind (arith, new), grind (arith, new))
  ];
  none = refl;
  counts = λ items. ap (distinct_count eq) (sym (map-id items));
}
