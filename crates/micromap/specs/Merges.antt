-- Steps of `merged`, for callers' clauses: what a loop makes of the value that is stored, if any, and of another one.
use Rattle.std.specs.Prelude.{◌≡◌, ℕ, ◌+◌, Bool, List, [], ◌∷◌, nat_eq, Option, Some, None, min, refl, unwrap_or}
use Rattle.micromap.specs.Items.{put_item, put_item_if_fits}

-- a total with one amount more, or the greatest number that it may be
abbrev pub sum_up_to : ℕ → Option ℕ → ℕ → ℕ
sum_up_to most total amount = min (unwrap_or total 0 + amount) most

-- of a first amount, and of one by which the total would be past 255
sum_up_to-first : sum_up_to 255 None 7 ≡ 7
sum_up_to-first = refl

sum_up_to-most : sum_up_to 255 (Some 250) 7 ≡ 255
sum_up_to-most = refl

-- the items of a set with one more, unless there are N others
abbrev pub with_item : {T : Type 0} → (T → T → Bool) → ℕ → Option (List T) → T → List T
with_item eq N items x = put_item_if_fits eq N (unwrap_or items []) x

-- of a first item, and of a third for a set of capacity 2
with_item-first : with_item nat_eq 2 None 5 ≡ 5 ∷ []
unfolding put_item
with_item-first = refl

with_item-full : with_item nat_eq 2 (Some (5 ∷ 6 ∷ [])) 7 ≡ 5 ∷ 6 ∷ []
with_item-full = refl
