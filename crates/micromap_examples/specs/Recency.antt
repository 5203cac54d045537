-- A cache of at most N pairs is the list of its pairs, from the least recently used one on. It has the last N pairs with different
-- keys of those that a list of calls uses, one after the other, which is said without the steps by which it keeps them.
use Rattle.std.specs.Prelude.{ℕ, Bool, List, [], ◌∷◌, ◌++◌, drop, Option, if◌then◌else◌, slice_get, ◌-◌, length, Some}
use Rattle.std.specs.Option.{option_map_or, option_to_list}
use Rattle.micromap.specs.Pairs.{fits, pair, take_out, has}
use Rattle.micromap_examples.specs.declared.lru_cache.Call.{Call}
use Rattle.micromap_examples.specs.declared.lru_cache.Call.TheVariants.{Get, Put}

module _ {K V : Type 0} (eq : K → K → Bool) where
  -- the pairs with (k, v) last, and without the one whose key equals k
  abbrev pub with_last : List (K × V) → K → V → List (K × V)
  with_last pairs k v = take_out eq pairs k ++ (k, v) ∷ []

  -- the pairs once k was read: its pair goes last
  abbrev pub used : List (K × V) → K → List (K × V)
  used pairs k = option_map_or (λ p. take_out eq pairs k ++ p ∷ []) (pair eq pairs k) pairs

  -- the pairs once (k, v) was put: it goes last, and the first pair is dropped if k is new and there is no room
  abbrev pub put_last : ℕ → List (K × V) → K → V → List (K × V)
  put_last N pairs k v = if fits eq N pairs k then with_last pairs k v else drop 1 (with_last pairs k v)

  -- the pair that leaves: the one whose key equals k, or the one that is dropped
  abbrev pub displaced : ℕ → List (K × V) → K → V → Option (K × V)
  displaced N pairs k v = if fits eq N pairs k then pair eq pairs k else slice_get (with_last pairs k v) 0

-- the last N of a list, or all if it has fewer
abbrev pub newest : {X : Type 0} → ℕ → List X → List X
newest N xs = drop (length xs - N) xs

module _ {K V : Type 0} (eq : K → K → Bool) where
  -- the last use of each key, in the order of the uses
  abbrev pub last_uses : List (K × V) → List (K × V)
  last_uses [] = []
  last_uses (p ∷ uses) = if has eq uses p.0 then last_uses uses else p ∷ last_uses uses

  -- those of the last N different keys
  abbrev pub last_keys : ℕ → List (K × V) → List (K × V)
  last_keys N uses = newest N (last_uses uses)

  -- the pair that a call uses: `put` its own, and `get` that of its key, if this is among the last N
  abbrev pub used_by : ℕ → List (K × V) → Call K V → Option (K × V)
  used_by N uses (Get k) = pair eq (last_keys N uses) k
  used_by N uses (Put k v) = Some (k, v)

  -- the uses once the calls were made
  abbrev pub uses : ℕ → List (K × V) → List (Call K V) → List (K × V)
  uses N done [] = done
  uses N done (call ∷ calls) = uses N (done ++ option_to_list (used_by N done call)) calls
