-- For callers: a list that has some items of another one in their order is no longer, and its items are distinct if
-- those of the other are.
use Rattle.std.proofs.Common.{◌≤◌, [], ◌∷◌, arith, false, filter, length, refl, subst, sym, true, Bool, List}
use Rattle.std.specs.List.{items_where_true, AllByRecursion, IsDistinct}
use Rattle.micromap_core.specs.Closures.{IsSublist}

-- what holds of each item holds of those that are picked
All-picked : {T : Type 0} (P : T → Type 0) (picks : List Bool) (xs : List T) → AllByRecursion P xs
    → AllByRecursion P (items_where_true picks xs)
All-picked P [] xs all = tt
All-picked P (b ∷ picks) [] all = tt
All-picked P (true ∷ picks) (x ∷ xs) all = (all.0, All-picked P picks xs all.1)
All-picked P (false ∷ picks) (x ∷ xs) all = All-picked P picks xs all.1

picked_distinct : {T : Type 0} (eq : T → T → Bool) (picks : List Bool) (xs : List T)
    → IsDistinct eq xs → IsDistinct eq (items_where_true picks xs)
unfolding IsDistinct
picked_distinct eq [] xs distinct = tt
picked_distinct eq (b ∷ picks) [] distinct = tt
picked_distinct eq (true ∷ picks) (x ∷ xs) distinct = (All-picked _ picks xs distinct.0, picked_distinct eq picks xs distinct.1)
picked_distinct eq (false ∷ picks) (x ∷ xs) distinct = picked_distinct eq picks xs distinct.1

pub IsDistinct-sublist : {T : Type 0} (eq : T → T → Bool) (part whole : List T)
    → IsSublist part whole → IsDistinct eq whole → IsDistinct eq part
IsDistinct-sublist eq part whole order distinct = subst (IsDistinct eq) (sym order.1) (picked_distinct eq order.0 whole distinct)

-- a part has at most as many items
picked_shorter : {T : Type 0} (picks : List Bool) (xs : List T) → length (items_where_true picks xs) ≤ length xs
picked_shorter [] xs = omega arith
picked_shorter (b ∷ picks) [] = omega arith
picked_shorter (true ∷ picks) (x ∷ xs) = omega (arith, picked_shorter picks xs)
picked_shorter (false ∷ picks) (x ∷ xs) = omega (arith, picked_shorter picks xs)

pub length-sublist : {T : Type 0} (part whole : List T) → IsSublist part whole → length part ≤ length whole
length-sublist part whole order = rw order.1 (picked_shorter order.0 whole)

-- what passes a test is a part
IsSublist-filter : {T : Type 0} (test : T → Bool) (xs : List T) → IsSublist (filter test xs) xs
IsSublist-filter test [] = ([], refl)
IsSublist-filter test (x ∷ xs) = let rest = IsSublist-filter test xs in
    (test x ∷ rest.0, grind (arith, rest.1))

pub IsDistinct-filter : {T : Type 0} (eq : T → T → Bool) (test : T → Bool) (xs : List T) → IsDistinct eq xs → IsDistinct eq (filter test xs)
IsDistinct-filter eq test xs = IsDistinct-sublist eq (filter test xs) xs (IsSublist-filter test xs)
