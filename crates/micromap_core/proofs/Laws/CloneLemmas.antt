-- For proofs: the clones of a map's first pairs have distinct keys.
use Rattle.std.proofs.Common.{[], ℕ, ◌++◌, ◌+◌, ◌<◌, ◌∙◌, ◌∷◌, ◌≡◌, ◌≤◌, arith, false, length, length-take, length-take-le, slice_get}
use Rattle.std.proofs.Common.{subst, suc, sym, take, take_all, zero, All, Bool, IsTrue, List, Some}
use Rattle.std.specs.{Cmp.IsEquivalence, List.AllByRecursion, List.AllZip, List.IsDistinct, Map.keys_of}
use Rattle.std.specs.Set.{ClonesAreEqual}
use Rattle.std.proofs.lemmas.{Option.get_or_from_slice_get, Option.slice_get_within}
use Rattle.std.proofs.lemmas.List.Elements.{all_zip_more, length_all_zip, All-get_or}
use Rattle.micromap_core.specs.{Clones.IsEqualClone, Clones.IsPairClone, Pairs.IsContent, Pairs.IsUnique}
use Rattle.micromap_core.proofs.Laws.Equalities.{of_lawful}

-- what holds of all holds of the one at an index
pub all_at : {X : Type 0} (P : X → Type 0) (xs : List X) (i : ℕ) (x : X) → slice_get xs i ≡ Some x → All P xs → P x
all_at P xs i x is all = subst P (get_or_from_slice_get xs i x x is) (All-get_or P xs i x (slice_get_within xs i x is) all)

-- pairs whose keys are clones that are equal to theirs are clones
pub from_equal : {K V : Type 0} (eq : K → K → Bool) (C : K → K → Type 0) (D : V → V → Type 0)
    (ps qs : List (K × V)) → AllZip (IsPairClone (IsEqualClone eq C) D) ps qs → AllZip (IsPairClone C D) ps qs
from_equal eq C D [] [] clones = tt
from_equal eq C D [] (q ∷ qs) clones = absurd clones
from_equal eq C D (p ∷ ps) [] clones = absurd clones
from_equal eq C D (p ∷ ps) (q ∷ qs) clones = ((clones.0.0.0, clones.0.1), from_equal eq C D ps qs clones.1)

module _ {X : Type 0} (C : X → X → Type 0) (xs ys : List X) (i : ℕ) (clones : AllZip C (take i xs) ys) where
  pub length_clones : i < length xs → length ys ≡ i
  length_clones within = sym (length_all_zip C (take i xs) ys clones) ∙ length-take-le i xs (omega (arith, within))

  -- one more
  pub clones_more : (x y : X) → i < length xs → slice_get xs i ≡ Some x → C x y → AllZip C (take (i + 1) xs) (ys ++ y ∷ [])
  clones_more x y within is clone = all_zip_more C xs ys i x y within (sym (get_or_from_slice_get xs i x x is)) clones clone

  -- all are clones once as many or more were asked for
  pub clones_all : (n : ℕ) → length xs ≤ i → length xs ≤ n → AllZip C (take n xs) ys
  clones_all n past beyond = subst (λ l. AllZip C l ys) (take_all i xs past ∙ sym (take_all n xs beyond)) clones

module _ {K V : Type 0} (eq : K → K → Bool) (laws : IsEquivalence eq) (C : K → K → Type 0)
    (D : V → V → Type 0) (equal : ClonesAreEqual eq C) where
  -- equal keys differ from equal keys alike
  apart : (k k' p q : K) → IsTrue (eq k k') → IsTrue (eq p q) → eq k p ≡ false → eq k' q ≡ false
  apart k k' p q kk pq differ = sym (laws.congr k k' q kk) ∙ laws.symm k q ∙ sym (laws.congr p q k pq) ∙ laws.symm p k ∙ differ

  -- a key's clone differs from the clones of the keys that it differs from
  apart_all : (k k' : K) → C k k' → (i : ℕ) (ps qs : List (K × V))
      → AllZip (IsPairClone C D) (take i ps) qs → AllByRecursion (λ y. eq k y ≡ false) (keys_of ps)
      → AllByRecursion (λ y. eq k' y ≡ false) (keys_of qs)
  apart_all k k' c zero ps [] clones differ = tt
  apart_all k k' c zero ps (q ∷ qs) clones differ = absurd clones
  apart_all k k' c (suc i) ps [] clones differ = tt
  apart_all k k' c (suc i) [] (q ∷ qs) clones differ = absurd clones
  apart_all k k' c (suc i) (p ∷ ps) (q ∷ qs) clones differ = (
    apart k k' p.0 q.0 (equal k k' c) (equal p.0 q.0 clones.0.0) differ.0,
    apart_all k k' c i ps qs clones.1 differ.1,
  )

  -- so the keys of the first clones are distinct
  unique_clones : (i : ℕ) (ps qs : List (K × V)) → AllZip (IsPairClone C D) (take i ps) qs → IsUnique eq ps → IsUnique eq qs
  unfolding IsDistinct
  unique_clones zero ps [] clones unique = tt
  unique_clones zero ps (q ∷ qs) clones unique = absurd clones
  unique_clones (suc i) [] [] clones unique = tt
  unique_clones (suc i) [] (q ∷ qs) clones unique = absurd clones
  unique_clones (suc i) (p ∷ ps) [] clones unique = absurd clones
  unique_clones (suc i) (p ∷ ps) (q ∷ qs) clones unique = (
    apart_all p.0 q.0 clones.0.0 i ps qs clones.1 unique.0,
    unique_clones i ps qs clones.1 unique.1,
  )

-- the first clones are the content of a map if the pairs are
pub IsContent-clones : {K V : Type 0} {eq : K → K → Bool} (C : K → K → Type 0) (D : V → V → Type 0)
    → ClonesAreEqual eq C → {N : ℕ} {ps : List (K × V)} → IsContent eq N ps → (i : ℕ)
    (qs : List (K × V)) → AllZip (IsPairClone C D) (take i ps) qs → IsContent eq N qs
IsContent-clones {eq = eq} C D equal {ps = ps} content i qs clones = record {
  unique = unique_clones eq (of_lawful eq content.lawful) C D equal i ps qs clones content.unique;
  bounded = omega (arith, content.bounded, length_all_zip _ (take i ps) qs clones, length-take i ps);
  lawful = content.lawful;
}
