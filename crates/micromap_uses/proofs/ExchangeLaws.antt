-- How many keys a list of pairs has whose key and value are exchanged.
use Rattle.std.proofs.Common.{◌≡◌, ◌≤◌, Bool, List, ap, length, map, refl, subst}
use Rattle.std.specs.Map.{keys_of, values_of}
use Rattle.std.specs.Set.{distinct_count}
use Rattle.std.proofs.lemmas.List.{length-map}
use Rattle.std.proofs.lemmas.Map.Made.{distinct_count-le}
use Rattle.std.proofs.lemmas.Simd.{map-map}
use Rattle.micromap_core.proofs.Laws.Equalities.{Trigger}

module _ {K V : Type 0} (eq : V → V → Bool) (pairs : List (K × V)) where
  -- as many as there are different values, which are no more than the pairs
  pub count_exchanged : Trigger (distinct_count eq (values_of pairs))
      ((distinct_count eq (keys_of (map (λ (p : K × V). (p.1, p.0)) pairs)) ≡ distinct_count eq (values_of pairs))
      × (distinct_count eq (values_of pairs) ≤ length pairs))
  count_exchanged = (
    refl,
    (
      ap (distinct_count eq) (map-map _ _ pairs),
      subst (λ n. distinct_count eq (values_of pairs) ≤ n) (length-map pairs _) (distinct_count-le eq (values_of pairs)),
    ),
  )
