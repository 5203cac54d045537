-- The conditions that a set and its iterators by value fit in memory. A caller that is generic in the items requires them
-- if it makes a set, drains one or iterates one by value. `Memory` has the conditions for a map.
use Rattle.std.specs.Prelude.{Bool}
use Rattle.std.specs.Borrow.{RattleType, unit}
use Rattle.micromap_core.specs.Memory.{FitsInMemory}
use Rattle.micromap.specs.contracts.set.Set as set
use Rattle.micromap_walk.specs.contracts.owning.IntoKeys as into_keys
use denote.Param.{param}

module _ (T N : RattleType) where
  -- a set fits
  abbrev pub SetFits : (T.Denot → T.Denot → Bool) → Type 0
  SetFits eq = FitsInMemory (set.the_row (param 0 T) (param 1 N) (record { eq = eq }))

  -- an iterator over the items by value fits
  abbrev pub SetIntoIterFits : Type 0
  SetIntoIterFits = FitsInMemory (into_keys.the_row (param 0 T) unit (param 1 N))
