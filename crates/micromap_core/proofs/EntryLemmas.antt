-- The entry of a stored key, the entry of a new key, and an entry after its value is written.
use Rattle.std.proofs.Common.{◌≡◌, ℕ, [], ◌∷◌, ◌++◌, ◌∙◌, append-nil, length, refl, slice_get, sym, Bool, List, MutBor, None, Some}
use Rattle.std.proofs.lemmas.Option.{slice_get_within}
use Rattle.micromap_core.specs.Entry.{entry_key, entry_map_ref, entry_put, entry_taken, IsEntryOf, IsWritten, Occupied, Vacant}
use Rattle.micromap_walk.proofs.Laws.Lists.{remove_seam}
use Rattle.micromap_core.specs.{Found.FoundAt, Found.NotFound, Pairs.index_of, Pairs.take_out, Pairs.with_value_at, Pairs.without_at}
use Rattle.micromap_core.specs.declared.map.entry.{EntryIn.EntryIn, OccupiedIn.OccupiedIn, VacantIn.VacantIn}
use Rattle.micromap_core.proofs.{Laws.Lists.slice_get_seam, Laws.MapLemmas.push-put, Laws.MapLemmas.with_value_at-put}
use Rattle.micromap_core.proofs.Laws.MapLemmas.{read_written, written_again, written_taken, pushed_written}

module _ {K V : Type 0} (eq : K → K → Bool) (map : MutBor (List (K × V))) (k : K) where
  -- the key is stored at the index
  pub entry_at : (i : ℕ) → FoundAt (eq k) map.now i → IsEntryOf eq map k (Occupied (record { map = map; index = i }))
  unfolding take_out entry_put
  entry_at i f = record {
    same_map = refl;
    pairs = refl;
    occupied = rw f.value refl;
    key = rw (f.entry, f.here) refl;
    value = rw (f.value, f.here) refl;
    puts = with_value_at-put eq k map.now i f;
    taken = sym f.taken;
    sound = f.within;
  }

  -- the key is new
  pub new_entry : NotFound (eq k) map.now → index_of eq map.now k ≡ None → IsEntryOf eq map k (Vacant (record { map = map; key = k }))
  unfolding take_out entry_put
  new_entry n missing = record {
    same_map = refl;
    pairs = refl;
    occupied = rw n.value refl;
    key = rw n.entry refl;
    value = sym n.value;
    puts = push-put eq k map.now n;
    taken = sym n.taken;
    sound = missing;
  }

module _ {K V : Type 0} (eq : K → K → Bool) (v : V) (new : MutBor (List (K × V))) where
  -- v was put by e, and (k, v) stands at the index
  written : (e : EntryIn K (List (K × V))) (k : K) (i : ℕ) → new.ghost_name ≡ (entry_map_ref e).ghost_name → entry_key e ≡ Some k
      → new.now ≡ entry_put e v → slice_get (entry_put e v) i ≡ Some (k, v) → ((w : V) → with_value_at (entry_put e v) i w ≡ entry_put e w)
      → without_at (entry_put e v) i ≡ entry_taken e → IsWritten eq e v (Occupied (record { map = new; index = i }))
  unfolding entry_put
  written e k i same key now read again taken =
      let stands : slice_get new.now i ≡ Some (k, v) = rw now read in
      record {
        same_map = same;
        pairs = now;
        occupied = refl;
        key = rw (stands, key) refl;
        value = rw stands refl;
        puts = λ w. rw now (again w);
        taken = rw now taken;
        sound = slice_get_within new.now i (k, v) stands;
      }

  -- v was written over the value of the pair p
  pub occupied_written : (o : OccupiedIn (List (K × V))) (p : K × V)
      → slice_get o.map.now o.index ≡ Some p → new.ghost_name ≡ o.map.ghost_name → new.now ≡ with_value_at o.map.now o.index v
      → IsWritten eq (Occupied o) v (Occupied (record { map = new; index = o.index }))
  unfolding entry_put
  occupied_written o p here same now = written (Occupied o) p.0 o.index same (rw here refl) now
      (read_written o.map.now o.index p here v) (written_again o.map.now o.index p here v) (written_taken o.map.now o.index p here v)

  -- the held key was pushed with v
  pub vacant_written : (e : VacantIn K (List (K × V))) (i : ℕ) → i ≡ length e.map.now
      → new.ghost_name ≡ e.map.ghost_name → new.now ≡ e.map.now ++ (e.key, v) ∷ []
      → IsWritten eq (Vacant e) v (Occupied (record { map = new; index = i }))
  unfolding without_at entry_put
  vacant_written e i at_end same now = rw at_end (written (Vacant e) e.key (length e.map.now) same refl now
      (slice_get_seam e.map.now (e.key, v) []) (pushed_written e.map.now e.key v)
      (remove_seam e.map.now (e.key, v) [] ∙ append-nil e.map.now))
