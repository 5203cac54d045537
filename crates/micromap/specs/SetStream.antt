-- A set as entries of a stream. Each item is a key with the value `()`, so a stream of a set is one of a map.
use Rattle.std.specs.Prelude.{◌≡◌, ℕ, Bool, List, [], ◌∷◌, nat_eq, map, None, refl, Result, Err}
use Rattle.std.specs.Result.{result_map_both}
use Rattle.std.proofs.Common.{lit<}
use Rattle.micromap_core.specs.Pairs.{put}
use Rattle.micromap_core.specs.Stream.{Stream, MapReads}
use Rattle.micromap_core.specs.declared.stream.ReadFault.{ReadFault}
use Rattle.micromap_core.specs.declared.stream.ReadFault.TheVariants.{TooMany}

-- the items as entries
abbrev pub entries_of : {T : Type 0} → List T → List (T × Unit {0})
entries_of items = map (λ x. (x, tt)) items

entries_of-two : entries_of {T = ℕ} (5 ∷ 6 ∷ []) ≡ (5, tt) ∷ (6, tt) ∷ []
entries_of-two = refl

entries_of-none : entries_of {T = ℕ} [] ≡ []
entries_of-none = refl

-- a reading of a set from a source, which is `old` before it and `new` after it: that of a map with the items as entries
abbrev pub SetReads : {T E : Type 0} → (T → T → Bool) → ℕ → (old new : Stream (T × Unit {0}) E) → Result (List T) (ReadFault E) → Type 0
SetReads eq N old new read = MapReads eq N old new (result_map_both entries_of (λ e. e) read)

-- into room for one, where the third item ends it
SetReads-too_many : SetReads {E = ℕ} nat_eq 1 (record { entries = entries_of (5 ∷ 5 ∷ 6 ∷ 7 ∷ []); faults = 0; last_fault = None }) (record { entries = entries_of (7 ∷ []); faults = 0; last_fault = None }) (Err TooMany)
unfolding put
SetReads-too_many =
    record {
      before = entries_of (5 ∷ 5 ∷ []);
      item = (6, tt);
      split = refl;
      fit = refl;
      misfit = refl;
      many = lit< tt;
      faultless = record { count = refl; last = refl };
    }
