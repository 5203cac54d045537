-- The conditions that a map and its iterators by value fit in memory, computed where key and value are known. A caller
-- that is generic in them requires them of its own callers if it makes a map, drains one or iterates one by value.
use Rattle.std.specs.Prelude.{◌<◌, ◌^◌, Bool}
use Rattle.std.specs.Borrow.{RattleType}
use Rattle.micromap_core.specs.contracts.map.Map as map
use Rattle.micromap_walk.specs.contracts.owning.IntoIter as into_iter
use Rattle.micromap_walk.specs.contracts.owning.IntoKeys as into_keys
use Rattle.micromap_walk.specs.contracts.owning.IntoValues as into_values
use denote.Param.{layout, param}
use prog.Memory.{size}

-- the type fits in memory
abbrev pub FitsInMemory : RattleType → Type 0
FitsInMemory row = size (layout row) < 2 ^ 63

module _ (K V N : RattleType) where
  -- a map fits
  abbrev pub MapFits : (K.Denot → K.Denot → Bool) → Type 0
  MapFits eq = FitsInMemory (map.the_row (param 0 K) (param 1 V) (param 2 N) (record { eq = eq }))

  -- an iterator over the pairs by value fits
  abbrev pub IntoIterFits : Type 0
  IntoIterFits = FitsInMemory (into_iter.the_row (param 0 K) (param 1 V) (param 2 N))

  -- one over the keys fits
  abbrev pub IntoKeysFits : Type 0
  IntoKeysFits = FitsInMemory (into_keys.the_row (param 0 K) (param 1 V) (param 2 N))

  -- one over the values fits
  abbrev pub IntoValuesFits : Type 0
  IntoValuesFits = FitsInMemory (into_values.the_row (param 0 K) (param 1 V) (param 2 N))
