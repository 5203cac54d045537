-- For proofs: facts about lists and options alone.
use Rattle.std.proofs.Common.{◌++◌, ◌≡◌, ℕ, ◌<◌, ◌≤◌, [], ◌∷◌, ◌∙◌, ap, arith, drop, drop-cons, get_or, length, map, refl, set}
use Rattle.std.proofs.Common.{slice_get, suc, sym, take, zero, List, None, Option, Some}
use Rattle.std.proofs.lemmas.List.{drop-map, drop-set-lt, get_or-set_same, length-set, map-append, map-set, take-map, take_at}
use Rattle.std.proofs.lemmas.Option.{get_or_from_slice_get, slice_get-get_or, slice_get_within}
use Rattle.std.specs.{List.refill, List.remove, List.swap, Option.ForSome, Option.IfSome}
use Rattle.std.{proofs.Math.ListN.get_or-map}

-- written back whole, a list of the same length is what it was written as
pub refill-same : {X : Type 0} (xs ws : List X) → length ws ≡ length xs → refill (length xs) xs ws ≡ ws
refill-same xs ws same = take_at ws _ (length xs) same

module _ {X : Type 0} where
  -- without an element that stands after the first ones
  pub remove_seam : (kept : List X) (x : X) (rest : List X) → remove (kept ++ x ∷ rest) (length kept) ≡ kept ++ rest
  remove_seam [] x rest = refl
  remove_seam (y ∷ kept) x rest = ap (λ l. y ∷ l) (remove_seam kept x rest)

  -- the element that was written is there
  pub slice_get-set_same : (xs : List X) (i : ℕ) (x : X) → i < length xs → slice_get (set xs i x) i ≡ Some x
  slice_get-set_same xs i x within = slice_get-get_or (set xs i x) i x (rw length-set within) ∙ ap Some (get_or-set_same xs i x x within)

-- what holds of each value that there may be
pub IfSome-from : {X : Type 0} (o : Option X) (P : X → Type 0) → ForSome o P → IfSome o P
IfSome-from None P all = tt
IfSome-from (Some x) P all = all x refl

-- the elements from an index on are the one that stands there and the others
pub drop-here : {X : Type 0} (xs : List X) (i : ℕ) (x : X) → slice_get xs i ≡ Some x → drop i xs ≡ x ∷ drop (suc i) xs
drop-here xs i x here = rw (drop-cons xs i x (slice_get_within xs i x here), get_or_from_slice_get xs i x x here) refl

-- the element at an index is the first of those from there on
pub slice_get-drop : {X : Type 0} (xs : List X) (i : ℕ) → slice_get (drop i xs) 0 ≡ slice_get xs i
slice_get-drop xs zero = refl
slice_get-drop [] (suc i) = refl
slice_get-drop (x ∷ xs) (suc i) = slice_get-drop xs i

-- a function of each element, and the list without one
pub map-remove : {X Y : Type 0} (f : X → Y) (xs : List X) (i : ℕ) → map f (remove xs i) ≡ remove (map f xs) i
map-remove f xs i = map-append f (take i xs) (drop (suc i) xs) ∙ sym (λ j. take-map f i xs j ++ drop-map f (suc i) xs j)

-- a function of each element leaves which two are swapped
pub map-swap : {X Y : Type 0} (f : X → Y) (xs : List X) (i j : ℕ) → map f (swap xs i j) ≡ swap (map f xs) i j
map-swap f [] i j = refl
map-swap f (x ∷ xs) i j = map-set f (set (x ∷ xs) i (get_or (x ∷ xs) j x)) j (get_or (x ∷ xs) i x)
    ∙ (λ z. set (map-set f (x ∷ xs) i (get_or (x ∷ xs) j x) z) j (sym (get_or-map f (x ∷ xs) i x) z))
    ∙ ap (λ y. set (set (f x ∷ map f xs) i y) j (get_or (f x ∷ map f xs) i (f x))) (sym (get_or-map f (x ∷ xs) j x))

module _ {X : Type 0} where
  -- an element that is swapped with an earlier one stands behind those before that
  swapped_front : (xs : List X) (n i : ℕ) (d : X) → n ≤ i → i < length xs → take (suc n) (set (set xs n (get_or xs i d)) i (get_or xs n d))
      ≡ take n xs ++ get_or xs i d ∷ []
  swapped_front [] n i d behind within = absurd (omega arith)
  swapped_front (x ∷ xs) zero zero d behind within = refl
  swapped_front (x ∷ xs) zero (suc i) d behind within = refl
  swapped_front (x ∷ xs) (suc n) zero d behind within = absurd (omega arith)
  swapped_front (x ∷ xs) (suc n) (suc i) d behind within = ap (λ l. x ∷ l) (swapped_front xs n i d (omega arith) (omega arith))

  pub swap-front : (xs : List X) (n i : ℕ) (x : X) → n ≤ i → slice_get xs i ≡ Some x → take (suc n) (swap xs n i) ≡ take n xs ++ x ∷ []
  swap-front [] n i x behind here = absurd (omega (arith, slice_get_within [] i x here))
  swap-front (d ∷ xs) n i x behind here = swapped_front (d ∷ xs) n i d behind (slice_get_within (d ∷ xs) i x here)
      ∙ ap (λ y. take n (d ∷ xs) ++ y ∷ []) (get_or_from_slice_get (d ∷ xs) i x d here)

  -- those behind both stay
  pub swap-behind : (xs : List X) (n i : ℕ) → n ≤ i → drop (suc i) (swap xs n i) ≡ drop (suc i) xs
  swap-behind [] n i behind = refl
  swap-behind (d ∷ xs) n i behind = drop-set-lt (suc i) _ i _ (omega arith) ∙ drop-set-lt (suc i) (d ∷ xs) n _ (omega arith)
