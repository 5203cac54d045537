-- What an entry has, and what its calls leave. The words serve its halves too, as `entry_value (Occupied o)`.
pub use Rattle.micromap_core.specs.declared.map.entry.EntryIn.TheVariants.{Occupied, Vacant}
use Rattle.std.specs.Prelude.{◌≡◌, ℕ, ◌+◌, ◌<◌, Bool, true, false, ◌||◌, List, [], ◌∷◌, ◌++◌, length, nat_eq, Option, Some, None, is_some, refl, slice_get}
use Rattle.std.specs.Option.{option_map, option_map_or, IsSomeAnd}
use Rattle.std.specs.Fn.{FnOnceReturnsAt, Once}
use Rattle.std.specs.Borrow.{Bor, MutBor, RattleType, Fml, follows}
use Rattle.std.proofs.Common.{ap, lit<, true≢false}
use Rattle.micromap_core.specs.Examples.{half_eq, mut_ref_to, ref_to}
use Rattle.micromap_core.specs.Pairs.{at, pair, index_of, has, has_room, put, take_out, with_value_at, without_at}
use Rattle.micromap_core.specs.declared.map.entry.EntryIn.{EntryIn}
use Rattle.micromap_core.specs.declared.map.entry.OccupiedIn.{OccupiedIn}
use Rattle.micromap_core.specs.contracts.map.Map.{the_row}
use Rattle.micromap_core.specs.contracts.map.entry.OccupiedIn as occupied
use mir.Syntax.{named}

module _ {K V : Type 0} where
  -- the reference to the map
  abbrev pub entry_map_ref : EntryIn K (List (K × V)) → MutBor (List (K × V))
  entry_map_ref (Occupied o) = o.map
  entry_map_ref (Vacant e) = e.map

  -- the map's pairs now
  abbrev pub entry_pairs : EntryIn K (List (K × V)) → List (K × V)
  entry_pairs e = (entry_map_ref e).now

  -- whether the key is stored
  abbrev pub is_occupied : EntryIn K (List (K × V)) → Bool
  is_occupied (Occupied o) = true
  is_occupied (Vacant e) = false

  -- the stored key, or the held one
  abbrev pub entry_key : EntryIn K (List (K × V)) → Option K
  entry_key (Occupied o) = option_map (λ p. p.0) (slice_get o.map.now o.index)
  entry_key (Vacant e) = Some e.key

  -- the value that the key has
  abbrev pub entry_value : EntryIn K (List (K × V)) → Option V
  entry_value (Occupied o) = option_map (λ p. p.1) (slice_get o.map.now o.index)
  entry_value (Vacant e) = None

  -- the pairs once v is the key's value
  unfoldable pub entry_put : EntryIn K (List (K × V)) → V → List (K × V)
  entry_put (Occupied o) v = with_value_at o.map.now o.index v
  entry_put (Vacant e) v = e.map.now ++ (e.key, v) ∷ []

  -- the pairs once the key is taken out
  abbrev pub entry_taken : EntryIn K (List (K × V)) → List (K × V)
  entry_taken (Occupied o) = without_at o.map.now o.index
  entry_taken (Vacant e) = e.map.now

  -- whether the key can have a value
  abbrev pub entry_has_room : ℕ → EntryIn K (List (K × V)) → Bool
  entry_has_room N e = is_occupied e || has_room N (entry_pairs e)

-- the entries of the keys 2 and 3 in a map with the keys 1 and 2
abbrev of_stored : EntryIn ℕ (List (ℕ × ℕ))
of_stored = Occupied (record { map = mut_ref_to ((1, 10) ∷ (2, 20) ∷ []); index = 1 })

abbrev of_new : EntryIn ℕ (List (ℕ × ℕ))
of_new = Vacant (record { map = mut_ref_to ((1, 10) ∷ (2, 20) ∷ []); key = 3 })

entry_pairs-new : entry_pairs of_new ≡ (1, 10) ∷ (2, 20) ∷ []
entry_pairs-new = refl

is_occupied-stored : is_occupied of_stored ≡ true
is_occupied-stored = refl

is_occupied-new : is_occupied of_new ≡ false
is_occupied-new = refl

entry_key-stored : entry_key of_stored ≡ Some 2
entry_key-stored = refl

entry_key-new : entry_key of_new ≡ Some 3
entry_key-new = refl

entry_value-stored : entry_value of_stored ≡ Some 20
entry_value-stored = refl

entry_value-new : entry_value of_new ≡ None
entry_value-new = refl

entry_put-stored : entry_put of_stored 21 ≡ (1, 10) ∷ (2, 21) ∷ []
unfolding entry_put
entry_put-stored = refl

entry_put-new : entry_put of_new 30 ≡ (1, 10) ∷ (2, 20) ∷ (3, 30) ∷ []
unfolding entry_put
entry_put-new = refl

entry_taken-stored : entry_taken of_stored ≡ (1, 10) ∷ []
unfolding without_at
entry_taken-stored = refl

entry_taken-new : entry_taken of_new ≡ (1, 10) ∷ (2, 20) ∷ []
entry_taken-new = refl

-- at capacity 2 a stored key, and not a new one
entry_has_room-full_stored : entry_has_room 2 of_stored ≡ true
entry_has_room-full_stored = refl

entry_has_room-full_new : entry_has_room 2 of_new ≡ false
entry_has_room-full_new = refl

module _ {K V : Type 0} where
  -- an occupied entry points at a pair, and the key of a vacant one is new
  abbrev pub IsSound : (K → K → Bool) → EntryIn K (List (K × V)) → Type 0
  IsSound eq (Occupied o) = o.index < length o.map.now
  IsSound eq (Vacant e) = index_of eq e.map.now e.key ≡ None

  -- e is the entry of k in the map
  pub record IsEntryOf (eq : K → K → Bool) (map : MutBor (List (K × V))) (k : K) (e : EntryIn K (List (K × V))) : Type 0 where
    pub same_map : (entry_map_ref e).ghost_name ≡ map.ghost_name
    pub pairs : entry_pairs e ≡ map.now
    pub occupied : is_occupied e ≡ has eq map.now k
    pub key : entry_key e ≡ Some (option_map_or (λ p. p.0) (pair eq map.now k) k)
    pub value : entry_value e ≡ at eq map.now k
    pub puts : (v : V) → entry_put e v ≡ put eq map.now k v
    pub taken : entry_taken e ≡ take_out eq map.now k
    pub sound : IsSound eq e

  -- d is the entry e once v is the key's value
  pub record IsWritten (eq : K → K → Bool) (e : EntryIn K (List (K × V))) (v : V) (d : EntryIn K (List (K × V))) : Type 0 where
    pub same_map : (entry_map_ref d).ghost_name ≡ (entry_map_ref e).ghost_name
    pub pairs : entry_pairs d ≡ entry_put e v
    pub occupied : is_occupied d ≡ true
    pub key : entry_key d ≡ entry_key e
    pub value : entry_value d ≡ Some v
    pub puts : (w : V) → entry_put d w ≡ entry_put e w
    pub taken : entry_taken d ≡ entry_taken e
    pub sound : IsSound eq d

  -- d is the entry e once the value that its key has, if any, is modified: `modifies` takes the old value and the new one
  pub record IsModified (eq : K → K → Bool) (modifies : Option V → Option V → Type 0) (e d : EntryIn K (List (K × V))) : Type 0 where
    pub same_map : (entry_map_ref d).ghost_name ≡ (entry_map_ref e).ghost_name
    pub pairs : entry_pairs d ≡ option_map_or (entry_put e) (entry_value d) (entry_pairs e)
    pub occupied : is_occupied d ≡ is_occupied e
    pub key : entry_key d ≡ entry_key e
    pub value : modifies (entry_value e) (entry_value d)
    pub puts : (v : V) → entry_put d v ≡ entry_put e v
    pub taken : entry_taken d ≡ entry_taken e
    pub sound : IsSound eq d

  -- o once v is its value
  abbrev pub with_entry_value : OccupiedIn (List (K × V)) → V → OccupiedIn (List (K × V))
  with_entry_value o v = record o { map = record o.map { now = entry_put (Occupied o) v } }

-- of both entries, and not of a new key that is equal to a stored one
IsSound-stored : IsSound nat_eq of_stored
IsSound-stored = lit< tt

IsSound-new : IsSound nat_eq of_new
IsSound-new = refl

IsSound-equal : ¬ IsSound half_eq of_new
IsSound-equal sound = true≢false (ap is_some sound)

-- of a stored key, of a new one, and not of another key
IsEntryOf-stored : IsEntryOf nat_eq (mut_ref_to ((1, 10) ∷ (2, 20) ∷ [])) 2 of_stored
unfolding entry_put put take_out without_at
IsEntryOf-stored = record { same_map = refl; pairs = refl; occupied = refl; key = refl; value = refl; puts = λ v. refl; taken = refl; sound = lit< tt }

IsEntryOf-new : IsEntryOf nat_eq (mut_ref_to ((1, 10) ∷ (2, 20) ∷ [])) 3 of_new
unfolding entry_put put take_out
IsEntryOf-new = record { same_map = refl; pairs = refl; occupied = refl; key = refl; value = refl; puts = λ v. refl; taken = refl; sound = refl }

IsEntryOf-other_key : ¬ IsEntryOf nat_eq (mut_ref_to ((1, 10) ∷ (2, 20) ∷ [])) 3 of_stored
IsEntryOf-other_key entry = true≢false entry.occupied

-- of the value 21 at the key 2, and of 30 at the new key 3
IsWritten-stored : IsWritten nat_eq of_stored 21 (Occupied (record { map = mut_ref_to ((1, 10) ∷ (2, 21) ∷ []); index = 1 }))
unfolding entry_put without_at
IsWritten-stored = record { same_map = refl; pairs = refl; occupied = refl; key = refl; value = refl; puts = λ v. refl; taken = refl; sound = lit< tt }

IsWritten-new : IsWritten nat_eq of_new 30 (Occupied (record { map = mut_ref_to ((1, 10) ∷ (2, 20) ∷ (3, 30) ∷ []); index = 2 }))
unfolding entry_put without_at
IsWritten-new = record { same_map = refl; pairs = refl; occupied = refl; key = refl; value = refl; puts = λ v. refl; taken = refl; sound = lit< tt }

-- by one more: of a stored key, and of a new one, which stays without a value
IsModified-stored : IsModified nat_eq (λ old new. new ≡ option_map (λ v. v + 1) old) of_stored (Occupied (record { map = mut_ref_to ((1, 10) ∷ (2, 21) ∷ []); index = 1 }))
unfolding entry_put without_at
IsModified-stored = record { same_map = refl; pairs = refl; occupied = refl; key = refl; value = refl; puts = λ v. refl; taken = refl; sound = lit< tt }

IsModified-new : IsModified nat_eq (λ old new. new ≡ option_map (λ v. v + 1) old) of_new of_new
IsModified-new = record { same_map = refl; pairs = refl; occupied = refl; key = refl; value = refl; puts = λ v. refl; taken = refl; sound = refl }

-- a call of f at a reference to the key may answer r
abbrev pub AnswersOfKey : {F K V : Type 0} → Once F (Bor K × Unit {0}) V → F → Option K → V → Type 0
AnswersOfKey g f key r = IsSomeAnd key (λ k. FnOnceReturnsAt g f k r)

-- of a function that doubles the key, at a stored key and at none
AnswersOfKey-doubled : AnswersOfKey {F = Unit {0}} {K = ℕ} {V = ℕ} (record { pre = λ f a. Unit {0}; post = λ f a r. r ≡ a.0.now + a.0.now }) tt (Some 3) 6
AnswersOfKey-doubled = (ref_to 3, refl, refl)

AnswersOfKey-none : ¬ AnswersOfKey {F = Unit {0}} {K = ℕ} {V = ℕ} (record { pre = λ f a. Unit {0}; post = λ f a r. r ≡ a.0.now + a.0.now }) tt None 6
AnswersOfKey-none answers = answers

module _ (K V N : RattleType) (eq : K.Denot → K.Denot → Bool) where
  -- once the borrow r ends, the map has the last value written through r at the entry's key
  abbrev pub entry_lends : EntryIn K.Denot (List (K.Denot × V.Denot)) → MutBor V.Denot → Fml
  entry_lends e r = follows (the_row K V N (record { eq = eq })) V (entry_map_ref e).ghost_name r.ghost_name (entry_put e)

  -- once the borrow r ends, the entry behind o has the last value written through r
  abbrev pub occupied_lends : MutBor (OccupiedIn (List (K.Denot × V.Denot))) → MutBor V.Denot → Fml
  occupied_lends o r = follows (occupied.the_row (record { mir = named 1; lft = [] }) (the_row K V N (record { eq = eq }))) V o.ghost_name r.ghost_name (with_entry_value o.now)
