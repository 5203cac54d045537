-- For proofs: the members of an operation on two lists of items are distinct. An operation that doesn't care which list
-- is first has equal members if the lists change places.
use Rattle.std.proofs.Common.{◌≡◌, ◌+◌, Bool, true, not, ◌&&◌, ◌||◌, ◌↔◌, List, [], ◌∷◌, length, filter, if◌then◌else◌, IsTrue, refl, ap}
use Rattle.std.proofs.Common.{sym, ◌∙◌, arith, length-append}
use Rattle.std.specs.Cmp.{IsEquivalence, both_ways}
use Rattle.std.specs.{Cmp.Derive.both_true, List.IsDistinct, List.list_all, Set.is_member}
use Rattle.std.proofs.Math.Bool.{not-not, or-true}
use Rattle.std.proofs.lemmas.{Bool.false≢true, Bool.not-true, List.Folds.list_any-append, Map.Made.is_member-filter}
use Rattle.std.proofs.lemmas.Map.Steps.{list_any_congr}
use Rattle.micromap_core.proofs.Laws.DistinctLemmas.{IsDistinct-append}
use Rattle.micromap.specs.Operations.{difference, intersection, symmetric_difference, union, Commutes, IsDisjoint, IsSubset}
use Rattle.micromap.proofs.Laws.OperationSteps.{length-parts}

module _ {T : Type 0} {eq : T → T → Bool} (laws : IsEquivalence eq) where
  -- which items have an equal one among the members
  pub is_member-difference : (xs ys : List T) (q : T)
      → is_member eq (difference eq xs ys) q ≡ (is_member eq xs q && not (is_member eq ys q))
  is_member-difference xs ys q = is_member-filter laws (λ x. not (is_member eq ys x)) q
      (λ x same. ap not (list_any_congr laws q x ys same)) xs

  pub is_member-intersection : (xs ys : List T) (q : T) → is_member eq (intersection eq xs ys) q ≡ (is_member eq xs q && is_member eq ys q)
  is_member-intersection xs ys q = is_member-filter laws (is_member eq ys) q (λ x same. list_any_congr laws q x ys same) xs

  pub is_member-union : (xs ys : List T) (q : T) → is_member eq (union eq xs ys) q ≡ (is_member eq xs q || is_member eq ys q)
  unfolding union
  is_member-union xs ys q = grind (arith, list_any-append (eq q) ys (difference eq xs ys), is_member-difference xs ys q)

  pub is_member-symmetric_difference : (xs ys : List T) (q : T) → is_member eq (symmetric_difference eq xs ys) q
      ≡ (if is_member eq xs q then not (is_member eq ys q) else is_member eq ys q)
  unfolding symmetric_difference
  is_member-symmetric_difference xs ys q = grind (
    arith,
    list_any-append (eq q) (difference eq xs ys) (difference eq ys xs),
    is_member-difference xs ys q,
    is_member-difference ys xs q,
  )

  -- turned round, the operations have equal members
  pub intersection_turned : (xs ys : List T) → Commutes eq (intersection eq) xs ys
  intersection_turned xs ys q = grind (arith, is_member-intersection xs ys q, is_member-intersection ys xs q)

  pub union_turned : (xs ys : List T) → Commutes eq (union eq) xs ys
  union_turned xs ys q = grind (arith, is_member-union xs ys q, is_member-union ys xs q)

  pub symmetric_difference_turned : (xs ys : List T) → Commutes eq (symmetric_difference eq) xs ys
  symmetric_difference_turned xs ys q = grind (arith, is_member-symmetric_difference xs ys q, is_member-symmetric_difference ys xs q)

  -- the members of both parts are distinct
  pub IsDistinct-union : (xs ys : List T) → IsDistinct eq ys → IsDistinct eq (difference eq xs ys) → IsDistinct eq (union eq xs ys)
  unfolding union
  IsDistinct-union xs ys others beyond = IsDistinct-append laws ys (difference eq xs ys) others beyond
      (λ q found. grind (arith, found, is_member-difference xs ys q))

  pub IsDistinct-symmetric_difference : (xs ys : List T) → IsDistinct eq (difference eq xs ys)
      → IsDistinct eq (difference eq ys xs) → IsDistinct eq (symmetric_difference eq xs ys)
  unfolding symmetric_difference
  IsDistinct-symmetric_difference xs ys first second = IsDistinct-append laws (difference eq xs ys) (difference eq ys xs) first second
      (λ q found. grind (arith, found, is_member-difference xs ys q, is_member-difference ys xs q))

-- what is counted twice in the two lists is counted once in the intersection
pub length-union : {T : Type 0} (eq : T → T → Bool) (xs ys : List T)
    → length (union eq xs ys) + length (intersection eq xs ys) ≡ length xs + length ys
unfolding union
length-union eq xs ys = omega (arith, length-append ys (difference eq xs ys), length-parts eq xs ys)

-- no item passes the test, exactly where each passes the opposite one
module _ {T : Type 0} (test opposite : T → Bool) (turns : (x : T) → opposite x ≡ not (test x)) where
  none_pass : (xs : List T) → IsTrue (list_all opposite xs) ↔ (filter test xs ≡ [])
  none_pass [] = (λ all. refl, λ none. refl)
  none_pass (x ∷ xs) = (λ all. grind (arith, all, turns x, none_pass xs), λ none. grind (arith, none, turns x, none_pass xs))

-- each item of a list passes a test exactly where each does that has an equal one there, if equal items pass it alike
module _ {T : Type 0} {eq : T → T → Bool} (laws : IsEquivalence eq) (test : T → Bool)
    (alike : (x y : T) → eq x y ≡ true → test x ≡ test y) where
  members_pass : (xs : List T) → IsTrue (list_all test xs) ↔ ((q : T) → IsTrue (is_member eq xs q) → IsTrue (test q))
  members_pass [] = (λ all q there. absurd (false≢true there), λ each. refl)
  members_pass (x ∷ xs) = (
    λ all q there. grind (arith, all, there, alike q x, (members_pass xs).0),
    λ each. both_true (each x (ap (λ b. b || is_member eq xs x) (laws.refl x)))
        ((members_pass xs).1 (λ q there. each q (ap (λ b. eq q x || b) there ∙ or-true (eq q x)))),
  )

module _ {T : Type 0} {eq : T → T → Bool} (laws : IsEquivalence eq) where
  pub within : (xs ys : List T) → IsTrue (list_all (is_member eq ys) xs) ↔ IsSubset eq xs ys
  within xs ys = members_pass laws (is_member eq ys) (λ x y. list_any_congr laws x y ys) xs

  apart : (xs ys : List T) → IsTrue (list_all (λ x. not (is_member eq ys x)) xs) ↔ IsDisjoint eq xs ys
  apart xs ys =
      let none = members_pass laws (λ x. not (is_member eq ys x)) (λ x y same. ap not (list_any_congr laws x y ys same)) xs in (
        λ all q there. not-true _ (none.0 all q there),
        λ each. none.1 (λ q there. ap not (each q there)),
      )

  pub within_is_member : (xs ys : List T) → ((q : T) → is_member eq xs q ≡ true → is_member eq ys q ≡ true)
      → list_all (is_member eq ys) xs ≡ true
  within_is_member xs ys = (within xs ys).1

  -- that nothing is in both sets is said from either side
  apart_turned : (xs ys : List T) → IsTrue (list_all (λ x. not (is_member eq ys x)) xs)
      → IsTrue (list_all (λ y. not (is_member eq xs y)) ys)
  apart_turned xs ys all = (apart ys xs).1 (λ q there. grind (arith, there, (apart xs ys).0 all q))

  pub disjoint_turned : (xs ys : List T) → list_all (λ x. not (is_member eq ys x)) xs ≡ list_all (λ y. not (is_member eq xs y)) ys
  disjoint_turned xs ys = both_ways _ _ (apart_turned xs ys) (apart_turned ys xs)

  -- the answers of `is_subset` and `is_disjoint` say the same of every item. A set is a subset exactly where the
  -- difference is empty, and disjoint exactly where the intersection is
  pub subset_answered : (xs ys : List T) {answer : Bool} → answer ≡ list_all (is_member eq ys) xs
      → (answer ≡ list_all (is_member eq ys) xs) × (IsTrue answer ↔ IsSubset eq xs ys) × (IsTrue answer ↔ (difference eq xs ys ≡ []))
  subset_answered xs ys is = (
    is,
    rw is (within xs ys),
    rw is (none_pass (λ x. not (is_member eq ys x)) (is_member eq ys) (λ x. sym (not-not (is_member eq ys x))) xs),
  )

  pub disjoint_answered : (xs ys : List T) {answer : Bool} → answer ≡ list_all (λ x. not (is_member eq ys x)) xs
      → (answer ≡ list_all (λ x. not (is_member eq ys x)) xs) × (answer ≡ list_all (λ y. not (is_member eq xs y)) ys)
      × (IsTrue answer ↔ IsDisjoint eq xs ys) × (IsTrue answer ↔ (intersection eq xs ys ≡ []))
  disjoint_answered xs ys is = (
    is,
    is ∙ disjoint_turned xs ys,
    rw is (apart xs ys),
    rw is (none_pass (is_member eq ys) (λ x. not (is_member eq ys x)) (λ x. refl) xs),
  )
