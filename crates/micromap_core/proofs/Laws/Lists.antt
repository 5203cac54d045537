-- For proofs: facts about lists and options alone.
use Rattle.std.proofs.Common.{◌++◌, ◌≡◌, ℕ, ◌<◌, ◌≤◌, [], ◌∷◌, ◌∙◌, ◌+◌, ◌&&◌, ap, arith, false, get_or, if◌then◌else◌, is_some, length}
use Rattle.std.proofs.Common.{map, not, refl, set, slice_get, subst, suc, sym, take, true, zero, Bool, List, Some}
use Rattle.std.specs.List.{find, list_all, remove}
use Rattle.std.proofs.lemmas.List.{append-nil, drop-set-lt, drop_all, length-map, take-map, take-set}
use Rattle.std.{specs.Option.MatchOption, proofs.Math.ListN.get_or-map}

module _ {X : Type 0} where
  -- without its last element, a list has those before it
  pub remove_last : (xs : List X) (i : ℕ) → length xs ≤ suc i → remove xs i ≡ take i xs
  remove_last xs i last = ap (λ l. take i xs ++ l) (drop_all (suc i) xs last) ∙ append-nil (take i xs)

  -- what stood at the index says nothing of the rest
  pub remove-set : (xs : List X) (i : ℕ) (x : X) → remove (set xs i x) i ≡ remove xs i
  remove-set xs i x = rw (take-set, drop-set-lt (suc i) xs i x (omega arith)) refl

  -- an index within has an element
  pub slice_get_some : (xs : List X) (i : ℕ) → i < length xs → (x : X) × (slice_get xs i ≡ Some x)
  slice_get_some [] i within = absurd (omega arith)
  slice_get_some (x ∷ xs) zero within = (x, refl)
  slice_get_some (x ∷ xs) (suc i) within = slice_get_some xs i (omega arith)

  -- the element that stands after the first ones is there
  pub slice_get_seam : (kept : List X) (x : X) (rest : List X) → slice_get (kept ++ x ∷ rest) (length kept) ≡ Some x
  slice_get_seam [] x rest = refl
  slice_get_seam (y ∷ kept) x rest = slice_get_seam kept x rest

-- what holds of the first so many of a list that is read holds of those that are read of the first so many
module _ {X Y : Type 0} (read : X → Y) (items : List X) (i : ℕ) where
  -- also of one more and of the next
  pub taken_read : (Q : List Y → List Y → Y → Type 0) → ((d : Y) → i < length (map read items)
      → Q (take i (map read items)) (take (i + 1) (map read items)) (get_or (map read items) i d)) → (d : X) → i < length items
      → Q (map read (take i items)) (map read (take (i + 1) items)) (read (get_or items i d))
  taken_read Q all d within = subst (λ (t : List Y × List Y × Y). Q t.0 t.1 t.2) (λ j. (
    take-map read i items j,
    take-map read (i + 1) items j,
    get_or-map read items i d j,
  )) (all (read d) (subst (λ n. i < n) (sym (length-map items read)) within))

  -- where those are all
  pub all_read : (P : List Y → Type 0) → (length (map read items) ≤ i → P (take i (map read items)))
      → length items ≤ i → P (map read (take i items))
  all_read P all over = subst P (take-map read i items) (all (subst (λ n. n ≤ i) (sym (length-map items read)) over))

-- what is true of each item that fails a test is true of the first one, and where there is none all pass
module _ {X : Type 0} (test : X → Bool) where
  pub find_tells : {P : X → Type 0} (xs : List X) → ((i : ℕ) (x : X) → slice_get xs i ≡ Some x → test x ≡ false → P x)
      → MatchOption (find (λ x. not (test x)) xs) (list_all test xs ≡ true) P
  find_tells [] each = refl
  find_tells {P = P} (x ∷ xs) each = by (test x) (each 0 x refl) (find_tells xs (λ i. each (suc i)))
    where
      by : (b : Bool) → (b ≡ false → P x) → MatchOption (find (λ x. not (test x)) xs) (list_all test xs ≡ true) P
          → MatchOption (if not b then Some x else find (λ x. not (test x)) xs) ((b && list_all test xs) ≡ true) P
      by true here rest = rest
      by false here rest = here refl

  pub all_by_find : (xs : List X) → list_all test xs ≡ not (is_some (find (λ x. not (test x)) xs))
  all_by_find [] = refl
  all_by_find (x ∷ xs) = grind (arith, all_by_find xs)
