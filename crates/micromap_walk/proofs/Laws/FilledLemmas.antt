-- For proofs: facts about filled slots and the items in them.
use Rattle.std.proofs.Common.{◌≡◌, ℕ, ◌<◌, [], ◌∷◌, ◌++◌, ◌∙◌, ap, arith, get_or, is_some, length, map, refl, remove, set, slice_get, suc}
use Rattle.std.proofs.Common.{swap, sym, take, zero, List, None, Option, Some, ◌+◌, drop, true, subst}
use Rattle.std.proofs.lemmas.List.{get_or-map, map-append, map-set, take-map, drop_more, drop-set-lt, length-drop, length-map, length-set}
use Rattle.std.{specs.List.refill, proofs.lemmas.Bool.false≢true, proofs.lemmas.Option.slice_get-get_or}
use Rattle.micromap_walk.specs.Filled.{items_of, AreFilled, AreLeft}
use Rattle.micromap_walk.proofs.Laws.Lists.{map-remove, map-swap, refill-same}

module _ {X : Type 0} where
  -- the items of filled slots
  pub items_of-map : (items : List X) → items_of (map Some items) ≡ items
  items_of-map [] = refl
  items_of-map (x ∷ xs) = ap (λ ys. x ∷ ys) (items_of-map xs)

  -- so slots that are made of items are filled
  pub AreFilled-from : (slots : List (Option X)) (items : List X) → slots ≡ map Some items → AreFilled slots
  AreFilled-from slots items made = rw (made, items_of-map) refl

  some_at_made : (items : List X) (i : ℕ) (d : Option X) → i < length items → is_some (get_or (map Some items) i d) ≡ true
  some_at_made [] i d within = absurd (omega arith)
  some_at_made (x ∷ xs) zero d within = refl
  some_at_made (x ∷ xs) (suc i) d within = some_at_made xs i d (omega arith)

  module _ (slots : List (Option X)) (filled : AreFilled slots) where
    pub length_filled : length (items_of slots) ≡ length slots
    length_filled = sym (ap length filled ∙ length-map (items_of slots) Some)

    -- a slot within is filled
    pub some_at : (i : ℕ) (d : Option X) → i < length slots → is_some (get_or slots i d) ≡ true
    some_at i d within = ap (λ ps. is_some (get_or ps i d)) filled ∙ some_at_made (items_of slots) i d (rw length_filled within)

    -- a slot within has the item at its index
    pub item_at : (i : ℕ) (slot : Option X) → i < length slots → slot ≡ get_or slots i slot → slice_get (items_of slots) i ≡ slot
    item_at i None within stands = absurd (false≢true (ap is_some stands ∙ some_at i None within))
    item_at i (Some x) within stands = slice_get-get_or (items_of slots) i x (rw (length_filled) within)
        ∙ sym (ap (λ s. get_or s i (Some x)) filled ∙ get_or-map Some (items_of slots) i x (Some x)
        (rw (length_filled) within)) ∙ sym stands

    -- another item at an index
    pub set_filled : (i : ℕ) (x : X) → set slots i (Some x) ≡ map Some (set (items_of slots) i x)
    set_filled i x = ap (λ s. set s i (Some x)) filled ∙ sym (map-set Some (items_of slots) i x)

    -- without the item at an index
    pub remove_filled : (i : ℕ) → remove slots i ≡ map Some (remove (items_of slots) i)
    remove_filled i = ap (λ s. remove s i) filled ∙ sym (map-remove Some (items_of slots) i)

    -- two items, each in the other's place
    pub swap_filled : (i j : ℕ) → swap slots i j ≡ map Some (swap (items_of slots) i j)
    swap_filled i j = ap (λ s. swap s i j) filled ∙ sym (map-swap Some (items_of slots) i j)

    -- the first items
    pub take_filled : (n : ℕ) → take n slots ≡ map Some (take n (items_of slots))
    take_filled n = ap (take n) filled ∙ take-map Some n (items_of slots)

    -- one more item at the end
    pub push_filled : (x : X) → slots ++ Some x ∷ [] ≡ map Some (items_of slots ++ x ∷ [])
    push_filled x = ap (λ s. s ++ Some x ∷ []) filled ∙ sym (map-append Some (items_of slots) (x ∷ []))

    -- the first slot, and those behind it
    module _ (slot : Option X) (rest : List (Option X)) (parts : slots ≡ slot ∷ rest) where
      pub first_some : is_some slot ≡ true
      first_some = ap (λ ps. is_some (get_or ps 0 None)) (sym parts) ∙ some_at 0 None (rw parts (omega arith))

      module _ (x : X) (some : slot ≡ Some x) where
        pub rest_filled : AreFilled rest
        rest_filled =
            let whole : AreFilled (Some x ∷ rest) = subst AreFilled (rw (parts, some) refl) filled in
            ap (drop 1) whole

        pub items_first : items_of slots ≡ x ∷ items_of rest
        items_first = rw (parts, some) refl

-- filled slots with equally many items are as many
pub equal_slots : {X Y : Type 0} (xs : List (Option X)) (ys : List (Option Y)) → AreFilled xs
    → AreFilled ys → length (items_of xs) ≡ length (items_of ys) → length xs ≡ length ys
equal_slots xs ys filled filled_too same = sym (length_filled xs filled) ∙ same ∙ length_filled ys filled_too

-- a list in place of one that is as long
pub refill_set : {X : Type 0} (xs : List X) (i : ℕ) (y : X) → refill (length xs) xs (set xs i y) ≡ set xs i y
refill_set xs i y = refill-same xs (set xs i y) (length-set xs i y)

-- the slot at an index of which on none is empty, and those behind it once it is
module _ {X : Type 0} (slots : List (Option X)) (i : ℕ) (filled : AreFilled (drop i slots))
    (within : i < length slots) (slot : Option X) (stands : slot ≡ get_or slots i slot) where
  parts : drop i slots ≡ slot ∷ drop (i + 1) slots
  parts = drop_more slots i slot within ∙ ap (λ s. s ∷ drop (i + 1) slots) (sym stands)

  pub taken_some : is_some slot ≡ true
  taken_some = first_some (drop i slots) filled slot (drop (i + 1) slots) parts

  emptied : drop (i + 1) (set slots i None) ≡ drop (i + 1) slots
  emptied = drop-set-lt (i + 1) slots i None (omega arith)

  module _ (x : X) (some : slot ≡ Some x) where
    pub taken_items : items_of (drop i slots) ≡ x ∷ items_of (drop (i + 1) (set slots i None))
    taken_items = items_first (drop i slots) filled slot (drop (i + 1) slots) parts x some ∙ ap (λ l. x ∷ items_of l) (sym emptied)

    pub taken_filled : AreFilled (drop (i + 1) (set slots i None))
    taken_filled = subst AreFilled (sym emptied) (rest_filled (drop i slots) filled slot (drop (i + 1) slots) parts x some)

-- as many items are left of both columns
pub left_equal : {X Y : Type 0} (front : ℕ) (xs : List (Option X)) (ys : List (Option Y))
    → AreLeft front xs ys → length (items_of (drop front xs)) ≡ length (items_of (drop front ys))
left_equal front xs ys left =
    omega (arith, length_filled _ left.keys, length_filled _ left.values, length-drop front xs, length-drop front ys, left.equal)
