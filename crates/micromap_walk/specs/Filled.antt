-- The slots in which a map keeps its keys and its values. None of a map is empty. Those that an iterator by value has gone past
-- are.
use Rattle.std.specs.Prelude.{◌≡◌, ◌≤◌, ℕ, List, drop, length, map, Option, Some, filter_map}

module _ {X : Type 0} where
  -- what stands in the slots, in order
  abbrev pub items_of : List (Option X) → List X
  items_of slots = filter_map (λ slot. slot) slots

  -- no slot is empty
  abbrev pub AreFilled : List (Option X) → Type 0
  AreFilled slots = slots ≡ map Some (items_of slots)

-- two columns of as many slots, of which none behind those front is empty
pub record AreLeft {X Y : Type 0} (front : ℕ) (xs : List (Option X)) (ys : List (Option Y)) : Type 0 where
  pub keys : AreFilled (drop front xs)
  pub values : AreFilled (drop front ys)
  pub equal : length xs ≡ length ys
  pub within : front ≤ length xs
