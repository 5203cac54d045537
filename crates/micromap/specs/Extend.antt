-- What a set is after items are put into it one after the other, and which item is the first that doesn't fit.
use Rattle.std.specs.Prelude.{◌≡◌, ℕ, Bool, true, false, List, [], ◌∷◌, nat_eq, Option, Some, None, fold, refl}
use Rattle.std.proofs.Common.{sym, true≢false}
use Rattle.micromap_core.specs.Build.{each_fits, put_whole, PutsEach, PutsUpTo, StopsAt}
use Rattle.micromap_core.specs.Examples.{half_eq}
use Rattle.micromap.specs.Items.{put_item, item_fits}

module _ {T : Type 0} (eq : T → T → Bool) where
  -- the items once these are put
  abbrev pub put_all_items : List T → List T → List T
  put_all_items = fold (put_item eq)

  -- the items of a new set once these are put: each distinct one as it came first
  abbrev pub distinct : List T → List T
  distinct = put_all_items []

  -- the items once x is put, or `None` if it doesn't fit or if one before it didn't
  unfoldable pub put_item_or_refuse : ℕ → Option (List T) → T → Option (List T)
  put_item_or_refuse N whole x = put_whole (item_fits eq N) (put_item eq) whole x

  -- for callers' clauses: the items of a new set of capacity N once these are put, or `None` if one of them doesn't fit
  abbrev pub distinct_or_refuse : ℕ → List T → Option (List T)
  distinct_or_refuse N items = fold (put_item_or_refuse N) (Some []) items

  -- whether each item fits a new set of capacity N when it is put
  abbrev pub all_items_fit : ℕ → List T → Bool
  all_items_fit N = each_fits (item_fits eq N) (put_item eq) []

  -- the first of the items that doesn't fit a set of capacity N with these stands at the position
  abbrev pub ItemMisfitIn : ℕ → List T → List T → ℕ → Type 0
  ItemMisfitIn N = StopsAt (item_fits eq N) (put_item eq)

  -- each of the items fits a set of capacity N with the old ones, and the new ones are the set's once they are put
  abbrev pub PutsAllItems : ℕ → List T → List T → List T → Type 0
  PutsAllItems N = PutsEach (item_fits eq N) (put_item eq)

  -- the first that doesn't fit stands at the position, and the new ones are the set's once those before it are put
  abbrev pub PutsItemsBefore : ℕ → List T → List T → List T → ℕ → Type 0
  PutsItemsBefore N = PutsUpTo (item_fits eq N) (put_item eq)

-- a stored item, and two new ones in the order in which they come
put_all_items-three : put_all_items nat_eq (1 ∷ 2 ∷ 4 ∷ []) (2 ∷ 3 ∷ 5 ∷ 6 ∷ []) ≡ 1 ∷ 2 ∷ 4 ∷ 3 ∷ 5 ∷ 6 ∷ []
unfolding put_item
put_all_items-three = refl

-- repeated items, items that are equal and aren't the same, and no item
distinct-repeated : distinct nat_eq (1 ∷ 1 ∷ 4 ∷ 2 ∷ 1 ∷ 4 ∷ 3 ∷ 4 ∷ 3 ∷ []) ≡ 1 ∷ 4 ∷ 2 ∷ 3 ∷ []
unfolding put_item
distinct-repeated = refl

distinct-equal : distinct half_eq (2 ∷ 3 ∷ 1 ∷ []) ≡ 2 ∷ 1 ∷ []
unfolding put_item
distinct-equal = refl

distinct-none : distinct nat_eq [] ≡ []
distinct-none = refl

-- a stored item into a full set, a new one, and any item after one that didn't fit
put_item_or_refuse-full_stored : put_item_or_refuse nat_eq 1 (Some (4 ∷ [])) 4 ≡ Some (4 ∷ [])
unfolding put_item_or_refuse put_item
put_item_or_refuse-full_stored = refl

put_item_or_refuse-full_new : put_item_or_refuse nat_eq 1 (Some (4 ∷ [])) 5 ≡ None
unfolding put_item_or_refuse
put_item_or_refuse-full_new = refl

put_item_or_refuse-after : put_item_or_refuse nat_eq 1 None 4 ≡ None
unfolding put_item_or_refuse
put_item_or_refuse-after = refl

-- two distinct items at capacities 2 and 1
distinct_or_refuse-fits : distinct_or_refuse nat_eq 2 (6 ∷ 5 ∷ 6 ∷ []) ≡ Some (6 ∷ 5 ∷ [])
unfolding put_item_or_refuse put_item
distinct_or_refuse-fits = refl

distinct_or_refuse-refuses : distinct_or_refuse nat_eq 1 (6 ∷ 5 ∷ 6 ∷ []) ≡ None
unfolding put_item_or_refuse put_item
distinct_or_refuse-refuses = refl

all_items_fit-two : all_items_fit nat_eq 2 (6 ∷ 5 ∷ 6 ∷ []) ≡ true
unfolding put_item
all_items_fit-two = refl

all_items_fit-one_too_many : all_items_fit nat_eq 1 (6 ∷ 5 ∷ 6 ∷ []) ≡ false
unfolding put_item
all_items_fit-one_too_many = refl

all_items_fit-none : all_items_fit nat_eq 0 [] ≡ true
all_items_fit-none = refl

-- after a stored item and a new one the third is the first that doesn't fit, and not the fourth
ItemMisfitIn-third : ItemMisfitIn nat_eq 3 (1 ∷ 2 ∷ []) (2 ∷ 5 ∷ 6 ∷ 7 ∷ []) 2
unfolding put_item
ItemMisfitIn-third = (refl, refl)

ItemMisfitIn-fourth : ¬ ItemMisfitIn nat_eq 3 (1 ∷ 2 ∷ []) (2 ∷ 5 ∷ 6 ∷ 7 ∷ []) 3
unfolding put_item
ItemMisfitIn-fourth stops = true≢false (sym stops.0)

PutsAllItems-two : PutsAllItems nat_eq 3 (1 ∷ 2 ∷ []) (1 ∷ 2 ∷ 5 ∷ []) (2 ∷ 5 ∷ [])
unfolding put_item
PutsAllItems-two = (refl, refl)

PutsAllItems-one_too_many : ¬ PutsAllItems nat_eq 3 (1 ∷ 2 ∷ []) (1 ∷ 2 ∷ 5 ∷ []) (2 ∷ 5 ∷ 6 ∷ [])
unfolding put_item
PutsAllItems-one_too_many puts = true≢false (sym puts.0)

PutsItemsBefore-third : PutsItemsBefore nat_eq 3 (1 ∷ 2 ∷ []) (1 ∷ 2 ∷ 5 ∷ []) (2 ∷ 5 ∷ 6 ∷ 7 ∷ []) 2
unfolding put_item
PutsItemsBefore-third = ((refl, refl), refl)

PutsItemsBefore-first : ¬ PutsItemsBefore nat_eq 3 (1 ∷ 2 ∷ []) (1 ∷ 2 ∷ []) (2 ∷ 5 ∷ 6 ∷ 7 ∷ []) 0
unfolding put_item
PutsItemsBefore-first puts = true≢false (sym puts.0.1)
