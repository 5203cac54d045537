-- Two lists of pairs are the same if each pair of either has an equal key with an equal value in the other, in whatever
-- order. A list may have repeated keys. The file also says at which key two lists first differ.
use Rattle.std.specs.Prelude.{Bool, ◌&&◌, List, Option, Some, not, IsTrue, ◌≡◌, true, false, [], ◌∷◌, None, nat_eq, refl}
use Rattle.std.specs.List.{find, list_all, list_any}
use Rattle.std.specs.Map.{keys_of}
use Rattle.std.specs.Option.{option_eq, option_map, option_or}
use Rattle.std.proofs.Common.{sym, true≢false}
use Rattle.micromap_core.specs.Examples.{half_eq}
use Rattle.micromap_core.specs.Pairs.{at, has}

-- whether each item of either list has an equal one in the other
abbrev pub have_equal_items : {X : Type 0} → (X → X → Bool) → List X → List X → Bool
have_equal_items eq first second = list_all (λ x. list_any (eq x) second) first && list_all (λ y. list_any (eq y) first) second

-- each item of either list has an equal one in the other
abbrev pub HaveEqualItems : {X : Type 0} → (X → X → Bool) → List X → List X → Type 0
HaveEqualItems eq first second = IsTrue (have_equal_items eq first second)

-- in another order, with a repeated item, with an item more, and of empty lists
have_equal_items-order : have_equal_items nat_eq (1 ∷ 2 ∷ []) (2 ∷ 1 ∷ []) ≡ true
have_equal_items-order = refl

have_equal_items-repeated : have_equal_items half_eq (2 ∷ 3 ∷ []) (3 ∷ []) ≡ true
have_equal_items-repeated = refl

have_equal_items-more : have_equal_items nat_eq (1 ∷ []) (1 ∷ 2 ∷ []) ≡ false
have_equal_items-more = refl

have_equal_items-empty : have_equal_items nat_eq [] [] ≡ true
have_equal_items-empty = refl

HaveEqualItems-order : HaveEqualItems nat_eq (1 ∷ 2 ∷ []) (2 ∷ 1 ∷ [])
HaveEqualItems-order = refl

HaveEqualItems-more : ¬ HaveEqualItems nat_eq (1 ∷ []) (1 ∷ 2 ∷ [])
HaveEqualItems-more equal = true≢false (sym equal)

module _ {K V : Type 0} (eq : K → K → Bool) (same : V → V → Bool) where
  -- whether the keys are equal and the values are
  abbrev pub pair_eq : K × V → K × V → Bool
  pair_eq p q = eq p.0 q.0 && same p.1 q.1

  -- whether each pair of either list has an equal key with an equal value in the other
  abbrev pub is_same : List (K × V) → List (K × V) → Bool
  is_same = have_equal_items pair_eq

  -- each pair of either list has an equal key with an equal value in the other
  abbrev pub Same : List (K × V) → List (K × V) → Type 0
  Same = HaveEqualItems pair_eq

  -- whether both lists lack the key, or have it with values that agree
  abbrev pub same_at : List (K × V) → List (K × V) → K → Bool
  same_at first second k = option_eq same (at eq first k) (at eq second k)

  -- whether a list has an equal value at the pair's key
  abbrev pub has_value : List (K × V) → K × V → Bool
  has_value pairs p = option_eq same (at eq pairs p.0) (Some p.1)

  -- the first key of one list that the other lacks or has with an unequal value
  abbrev pub first_unequal : List (K × V) → List (K × V) → Option K
  first_unequal one other = option_map (λ p. p.0) (find (λ p. not (has_value other p)) one)

  -- the first key of one list that the other lacks
  abbrev pub first_missing : List (K × V) → List (K × V) → Option K
  first_missing one other = find (λ k. not (has eq other k)) (keys_of one)

  -- the first key of this list that has no equal pair in the other, else the first of the other that this list lacks
  abbrev pub first_difference : List (K × V) → List (K × V) → Option K
  first_difference this other = option_or (first_unequal this other) (first_missing other this)

-- in another order, by a key that is equal and isn't the same, with an unequal value, with a pair more, and of empty lists
is_same-order : is_same nat_eq nat_eq ((1, 10) ∷ (2, 20) ∷ []) ((2, 20) ∷ (1, 10) ∷ []) ≡ true
is_same-order = refl

is_same-equal_key : is_same half_eq nat_eq ((2, 20) ∷ []) ((3, 20) ∷ []) ≡ true
is_same-equal_key = refl

is_same-unequal_value : is_same nat_eq nat_eq ((1, 10) ∷ (2, 20) ∷ []) ((2, 20) ∷ (1, 11) ∷ []) ≡ false
is_same-unequal_value = refl

is_same-more : is_same nat_eq nat_eq ((1, 10) ∷ []) ((1, 10) ∷ (2, 20) ∷ []) ≡ false
is_same-more = refl

is_same-empty : is_same nat_eq nat_eq [] [] ≡ true
is_same-empty = refl

Same-order : Same nat_eq nat_eq ((1, 10) ∷ (2, 20) ∷ []) ((2, 20) ∷ (1, 10) ∷ [])
Same-order = refl

Same-unequal_value : ¬ Same nat_eq nat_eq ((1, 10) ∷ (2, 20) ∷ []) ((2, 20) ∷ (1, 11) ∷ [])
Same-unequal_value same = true≢false (sym same)

-- at a key that both have, at one that both lack, at an unequal value, and at a key that one lacks
same_at-both : same_at nat_eq nat_eq ((1, 10) ∷ (2, 20) ∷ []) ((2, 20) ∷ (1, 11) ∷ []) 2 ≡ true
same_at-both = refl

same_at-neither : same_at nat_eq nat_eq ((1, 10) ∷ []) ((1, 11) ∷ []) 3 ≡ true
same_at-neither = refl

same_at-unequal_value : same_at nat_eq nat_eq ((1, 10) ∷ (2, 20) ∷ []) ((2, 20) ∷ (1, 11) ∷ []) 1 ≡ false
same_at-unequal_value = refl

same_at-one : same_at nat_eq nat_eq ((1, 10) ∷ []) [] 1 ≡ false
same_at-one = refl

-- an unequal value, a key that the other lacks, one that this list lacks, and none
first_difference-value : first_difference nat_eq nat_eq ((1, 10) ∷ (2, 20) ∷ []) ((2, 20) ∷ (1, 11) ∷ []) ≡ Some 1
first_difference-value = refl

first_difference-missing : first_difference nat_eq nat_eq ((2, 20) ∷ (1, 10) ∷ (3, 30) ∷ []) ((2, 20) ∷ []) ≡ Some 1
first_difference-missing = refl

first_difference-more : first_difference nat_eq nat_eq ((1, 10) ∷ []) ((3, 30) ∷ (1, 10) ∷ (2, 20) ∷ []) ≡ Some 3
first_difference-more = refl

first_difference-none : first_difference nat_eq nat_eq ((1, 10) ∷ (2, 20) ∷ []) ((2, 20) ∷ (1, 10) ∷ []) ≡ None
first_difference-none = refl
