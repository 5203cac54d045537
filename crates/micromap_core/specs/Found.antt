-- What the words on pairs are if the first key that passes a test is known, and if none passes. For inner calls alone.
use Rattle.std.specs.Prelude.{◌≡◌, ℕ, ◌<◌, Bool, true, false, List, length, Some, None, slice_get, slice_set}
use Rattle.std.specs.List.{list_any}
use Rattle.std.specs.Map.{keys_of, lookup, lookup_entry, remove_entry, set_value, set_key}
use Rattle.micromap_core.specs.Pairs.{without_at}

module _ {K V : Type 0} (test : K → Bool) (pairs : List (K × V)) where
  -- the first key that passes stands at the index
  pub record FoundAt (index : ℕ) : Type 0 where
    pub pair : K × V
    pub within : index < length pairs
    pub here : slice_get pairs index ≡ Some pair
    pub passes : test pair.0 ≡ true
    pub entry : lookup_entry test pairs ≡ Some pair
    pub value : lookup test pairs ≡ Some pair.1
    pub written : (v : V) → set_value test pairs v ≡ slice_set pairs index (pair.0, v)
    pub replaced : (k : K) (v : V) → set_key test (set_value test pairs v) k ≡ slice_set pairs index (k, v)
    pub taken : remove_entry test pairs ≡ without_at pairs index

  -- no key passes
  pub record NotFound : Type 0 where
    pub entry : lookup_entry test pairs ≡ None
    pub value : lookup test pairs ≡ None
    pub written : (v : V) → set_value test pairs v ≡ pairs
    pub taken : remove_entry test pairs ≡ pairs
    pub none : list_any test (keys_of pairs) ≡ false
