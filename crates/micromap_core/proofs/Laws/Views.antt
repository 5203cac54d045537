-- For proofs: what the words of lists make of a list of which each element is seen by a function.
use Rattle.std.proofs.Common.{◌≡◌, ℕ, ◌&&◌, ◌||◌, [], ◌∷◌, ◌∙◌, ap, arith, false, filter, map, option_map, refl, suc, take, zero, Bool, List, Option, Some}
use Rattle.std.specs.Fmt.{◌++?◌, comma_space, debug_items}
use Rattle.std.specs.List.{find, list_all, list_any, AllByRecursion, AllZip, IsDistinct}
use Rattle.std.specs.{Ordering.on, Set.remove_key}
use Rattle.std.proofs.lemmas.List.Folds.{list_all-map}
use Rattle.micromap_core.specs.Same.{have_equal_items}

module _ {X Y : Type 0} (f : X → Y) where
  -- by a test
  module _ (test : Y → Bool) where
    pub any-map : (xs : List X) → list_any test (map f xs) ≡ list_any (λ x. test (f x)) xs
    any-map [] = refl
    any-map (x ∷ xs) = ap (λ b. test (f x) || b) (any-map xs)

    pub find-map : (xs : List X) → find test (map f xs) ≡ option_map f (find (λ x. test (f x)) xs)
    find-map [] = refl
    find-map (x ∷ xs) = grind (arith, find-map xs)

    pub filter-map : (xs : List X) → filter test (map f xs) ≡ map f (filter (λ x. test (f x)) xs)
    filter-map [] = refl
    filter-map (x ∷ xs) = grind (arith, filter-map xs)

    pub remove_key-map : (xs : List X) → map f (remove_key (λ x. test (f x)) xs) ≡ remove_key test (map f xs)
    remove_key-map [] = refl
    remove_key-map (x ∷ xs) = grind (arith, remove_key-map xs)

  -- by an equality of what is seen
  module _ (eq : Y → Y → Bool) where
    apart-map : (x : X) (xs : List X) → AllByRecursion (λ y. on f eq x y ≡ false) xs → AllByRecursion (λ y. eq (f x) y ≡ false) (map f xs)
    apart-map x [] apart = tt
    apart-map x (y ∷ xs) apart = (apart.0, apart-map x xs apart.1)

    pub distinct-map : (xs : List X) → IsDistinct (on f eq) xs → IsDistinct eq (map f xs)
    unfolding IsDistinct
    distinct-map [] distinct = tt
    distinct-map (x ∷ xs) distinct = (apart-map x xs distinct.0, distinct-map xs distinct.1)

    apart-from_map : (x : X) (xs : List X) → AllByRecursion (λ y. eq (f x) y ≡ false) (map f xs)
        → AllByRecursion (λ y. on f eq x y ≡ false) xs
    apart-from_map x [] apart = tt
    apart-from_map x (y ∷ xs) apart = (apart.0, apart-from_map x xs apart.1)

    pub distinct-from_map : (xs : List X) → IsDistinct eq (map f xs) → IsDistinct (on f eq) xs
    unfolding IsDistinct
    distinct-from_map [] distinct = tt
    distinct-from_map (x ∷ xs) distinct = (apart-from_map x xs distinct.0, distinct-from_map xs distinct.1)

    within-map : (a b : List X) → list_all (λ x. list_any (eq x) (map f b)) (map f a) ≡ list_all (λ x. list_any (on f eq x) b) a
    within-map a b = list_all-map _ f a ∙ ap (λ test. list_all test a) (λ i x. any-map (eq (f x)) b i)

    pub equal_items-map : (a b : List X) → have_equal_items eq (map f a) (map f b) ≡ have_equal_items (on f eq) a b
    equal_items-map a b = λ i. within-map a b i && within-map b a i

  pub take-map : (n : ℕ) (xs : List X) → take n (map f xs) ≡ map f (take n xs)
  take-map zero xs = refl
  take-map (suc n) [] = refl
  take-map (suc n) (x ∷ xs) = ap (λ l. f x ∷ l) (take-map n xs)

  -- what is seen of the clones, if as much is seen of each clone
  pub cloned-map : (C : X → X → Type 0) → ((x y : X) → C x y → f y ≡ f x) → (xs ys : List X) → AllZip C xs ys → map f ys ≡ map f xs
  cloned-map C each [] [] clones = refl
  cloned-map C each [] (y ∷ ys) clones = absurd clones
  cloned-map C each (x ∷ xs) [] clones = absurd clones
  cloned-map C each (x ∷ xs) (y ∷ ys) clones = λ i. each x y clones.0 i ∷ cloned-map C each xs ys clones.1 i

  pub printed-map : (text : Y → Option (List ℕ)) (lead : List ℕ) (xs : List X)
      → debug_items text lead (map f xs) ≡ debug_items (λ x. text (f x)) lead xs
  printed-map text lead [] = refl
  printed-map text lead (x ∷ xs) = ap (λ rest. Some lead ++? text (f x) ++? rest) (printed-map text comma_space xs)
