-- Pairs with another value at an index, and what a slot, a column or pairs are after a write through a `&mut` to an item.
use Rattle.std.specs.Prelude.{ℕ, List, Option, Some, slice_get, slice_set}
use Rattle.std.specs.Borrow.{Lends, Fml, RattleType, MutBor}
use Rattle.std.specs.Option.{option_map_or}
use Rattle.std.specs.contracts.option.Option.{the_row as option_row}
use Rattle.micromap_walk.specs.contracts.slots.Slots as column
use Rattle.micromap_walk.specs.contracts.slots.columns.Columns as columns

-- with v as the value of the pair at the index
abbrev pub with_value_at : {K V : Type 0} → List (K × V) → ℕ → V → List (K × V)
with_value_at pairs index v = option_map_or (λ p. slice_set pairs index (p.0, v)) (slice_get pairs index) pairs

-- once the borrow r ends, the slot has the last item written through r
abbrev pub lends_item : (X : RattleType) → MutBor (Option X.Denot) → MutBor X.Denot → Fml
lends_item X slot r = Lends (option_row X) X slot r Some

-- once the borrow r ends, the item at the index of a column is the last one written through r
abbrev pub lends_item_at : (X N : RattleType) → MutBor (List X.Denot) → ℕ → MutBor X.Denot → Fml
lends_item_at X N slots index r = Lends (column.the_row X N) X slots r (slice_set slots.now index)

-- once the borrow r ends, the pair at the index of two columns has the last value written through r
abbrev pub lends_value_in : (K V N : RattleType) → MutBor (List (K.Denot × V.Denot)) → ℕ → MutBor V.Denot → Fml
lends_value_in K V N pairs index r = Lends (columns.the_row K V N) V pairs r (with_value_at pairs.now index)
