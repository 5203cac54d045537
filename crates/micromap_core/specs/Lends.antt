-- A map after a write through a `&mut` to a value.
use Rattle.std.specs.Prelude.{ℕ, Bool, List, Option}
use Rattle.std.specs.Borrow.{Lends, LendsIf, Fml, RattleType, MutBor}
use Rattle.micromap_core.specs.Pairs.{put, with_value_at}
use Rattle.std.specs.Map.{set_value}
use Rattle.micromap_core.specs.contracts.map.Map.{the_row}

module _ (K V N : RattleType) (eq : K.Denot → K.Denot → Bool) (map : MutBor (List (K.Denot × V.Denot))) where
  -- once the borrow r ends, the pair at the index has the last value written through r
  abbrev pub lends_value_at : ℕ → MutBor V.Denot → Fml
  lends_value_at index r = Lends (the_row K V N (record { eq = eq })) V map r (with_value_at map.now index)

  -- once the borrow r ends, the map has the last value written through r at the key
  abbrev pub lends_at : K.Denot → MutBor V.Denot → Fml
  lends_at k r = Lends (the_row K V N (record { eq = eq })) V map r (put eq map.now k)

  -- once the borrow in r ends, the map has the last value written through it at the key; at `None` the map stays as it is
  abbrev pub lends_at_if : K.Denot → Option (MutBor V.Denot) → Fml
  lends_at_if k r = LendsIf (the_row K V N (record { eq = eq })) V map r (put eq map.now k) map.now

  -- once the borrow r ends, the map has the last value written through r at the key that matches
  abbrev pub lends_matched : (K.Denot → Bool) → MutBor V.Denot → Fml
  lends_matched test r = Lends (the_row K V N (record { eq = eq })) V map r (set_value test map.now)

  -- once the borrow in r ends, the map has what was written at the key that matches; at `None` it stays as it is
  abbrev pub lends_matched_if : (K.Denot → Bool) → Option (MutBor V.Denot) → Fml
  lends_matched_if test r = LendsIf (the_row K V N (record { eq = eq })) V map r (set_value test map.now) map.now
