-- A map's content is a list of pairs of a key and a value, from front to end. The words say what a look-up, an
-- insertion or a removal makes of it. Keys are compared by eq, which need not be identity. N is the capacity. Below each
-- group of words are examples, which the checker computes.
use Rattle.std.specs.Prelude.{◌≡◌, ℕ, ◌≤◌, Bool, true, false, ◌||◌, List, [], ◌∷◌, ◌++◌, length, nat_eq, Option, Some, None, is_some, refl, if◌then◌else◌, nat_lt}
use Rattle.std.specs.Cmp.{nat_eq_equiv}
use Rattle.std.specs.List.{IsDistinct, position, remove}
use Rattle.std.specs.Map.{keys_of, lookup, lookup_entry, remove_entry, set_value, set_key}
use Rattle.micromap_core.specs.Equalities.{Lawful}
use Rattle.micromap_core.specs.Examples.{half_eq}
use Rattle.std.proofs.Common.{le-leb, lit≤, sym, true≢false}
pub use Rattle.micromap_walk.specs.Lends.{with_value_at}

-- without the element at the index
unfoldable pub without_at : {X : Type 0} → List X → ℕ → List X
without_at xs index = remove xs index

-- at the front, and past the end
without_at-front : without_at {X = ℕ} (5 ∷ 6 ∷ 7 ∷ []) 0 ≡ 6 ∷ 7 ∷ []
unfolding without_at
without_at-front = refl

without_at-past_end : without_at {X = ℕ} (5 ∷ 6 ∷ 7 ∷ []) 3 ≡ 5 ∷ 6 ∷ 7 ∷ []
unfolding without_at
without_at-past_end = refl

module _ {K V : Type 0} where
  -- fewer pairs than the capacity
  abbrev pub has_room : ℕ → List (K × V) → Bool
  has_room N pairs = nat_lt (length pairs) N

  -- the number of pairs before the first whose key passes the test
  abbrev pub first_index : (K → Bool) → List (K × V) → Option ℕ
  first_index test pairs = position test (keys_of pairs)

  -- whether a pair whose key passes the test can be put: one is stored, or there is room
  abbrev pub fits_by : (K → Bool) → ℕ → List (K × V) → Bool
  fits_by test N pairs = is_some (lookup test pairs) || has_room N pairs

-- for one pair more, in a full list, and at capacity 0
has_room-for_one : has_room {K = ℕ} {V = ℕ} 3 ((1, 10) ∷ (2, 20) ∷ []) ≡ true
has_room-for_one = refl

has_room-full : has_room {K = ℕ} {V = ℕ} 2 ((1, 10) ∷ (2, 20) ∷ []) ≡ false
has_room-full = refl

has_room-none : has_room {K = ℕ} {V = ℕ} 0 [] ≡ false
has_room-none = refl

-- at a stored key, and where no key passes
first_index-stored : first_index {V = ℕ} (nat_eq 2) ((1, 10) ∷ (2, 20) ∷ []) ≡ Some 1
first_index-stored = refl

first_index-missing : first_index {V = ℕ} (nat_eq 3) ((1, 10) ∷ (2, 20) ∷ []) ≡ None
first_index-missing = refl

-- in a full list, where a stored key passes, and where none does
fits_by-full_stored : fits_by {V = ℕ} (nat_eq 2) 2 ((1, 10) ∷ (2, 20) ∷ []) ≡ true
fits_by-full_stored = refl

fits_by-full_missing : fits_by {V = ℕ} (nat_eq 3) 2 ((1, 10) ∷ (2, 20) ∷ []) ≡ false
fits_by-full_missing = refl

-- at the second pair, and past the end
with_value_at-second : with_value_at {K = ℕ} {V = ℕ} ((1, 10) ∷ (2, 20) ∷ []) 1 21 ≡ (1, 10) ∷ (2, 21) ∷ []
with_value_at-second = refl

with_value_at-past_end : with_value_at {K = ℕ} {V = ℕ} ((1, 10) ∷ (2, 20) ∷ []) 2 21 ≡ (1, 10) ∷ (2, 20) ∷ []
with_value_at-past_end = refl

module _ {K V : Type 0} (eq : K → K → Bool) where
  -- no two keys are equal
  abbrev pub IsUnique : List (K × V) → Type 0
  IsUnique pairs = IsDistinct eq (keys_of pairs)

  -- no two keys are equal (`unique`), there are at most N pairs (`bounded`), and eq is an equivalence (`lawful`)
  pub record IsContent (N : ℕ) (pairs : List (K × V)) : Type 0 where
    pub unique : IsUnique pairs
    pub bounded : length pairs ≤ N
    pub lawful : Lawful eq

  -- `IsContent` holds of both lists
  abbrev pub AreContents : ℕ → List (K × V) → List (K × V) → Type 0
  AreContents N old new = IsContent N old × IsContent N new

-- of two keys at capacity 2, of no key at capacity 0, and not of equal keys, or of more than the capacity
IsContent-two : IsContent {V = ℕ} nat_eq 2 ((1, 10) ∷ (2, 20) ∷ [])
unfolding IsDistinct Lawful
IsContent-two = record { unique = ((refl, tt), (tt, tt)); bounded = lit≤ tt; lawful = nat_eq_equiv }

IsContent-empty : IsContent {V = ℕ} nat_eq 0 []
unfolding IsDistinct Lawful
IsContent-empty = record { unique = tt; bounded = lit≤ tt; lawful = nat_eq_equiv }

IsContent-equal_keys : ¬ IsContent {V = ℕ} half_eq 2 ((2, 20) ∷ (3, 30) ∷ [])
unfolding IsDistinct
IsContent-equal_keys content = true≢false content.unique.0.0

IsContent-too_many : ¬ IsContent {V = ℕ} nat_eq 2 ((1, 10) ∷ (2, 20) ∷ (3, 30) ∷ [])
IsContent-too_many content = true≢false (sym (le-leb 3 2 content.bounded))

AreContents-emptied : AreContents {V = ℕ} nat_eq 2 ((1, 10) ∷ (2, 20) ∷ []) []
unfolding IsDistinct Lawful
AreContents-emptied = (IsContent-two, record { unique = tt; bounded = lit≤ tt; lawful = nat_eq_equiv })

module _ {K V : Type 0} (eq : K → K → Bool) where
  -- the value of the pair whose key equals k
  abbrev pub at : List (K × V) → K → Option V
  at pairs k = lookup (eq k) pairs

  -- the pair whose key equals k
  abbrev pub pair : List (K × V) → K → Option (K × V)
  pair pairs k = lookup_entry (eq k) pairs

  -- the number of pairs before it
  abbrev pub index_of : List (K × V) → K → Option ℕ
  index_of pairs k = first_index (eq k) pairs

  -- whether some key equals k
  abbrev pub has : List (K × V) → K → Bool
  has pairs k = is_some (at pairs k)

  -- whether a pair with the key k can be put
  abbrev pub fits : ℕ → List (K × V) → K → Bool
  fits N pairs k = fits_by (eq k) N pairs

-- at a stored key, at one that is equal to a stored one, at a missing one, and in an empty list
at-stored : at {V = ℕ} nat_eq ((1, 10) ∷ (2, 20) ∷ []) 2 ≡ Some 20
at-stored = refl

at-equal : at {V = ℕ} half_eq ((1, 10) ∷ (2, 20) ∷ []) 3 ≡ Some 20
at-equal = refl

at-missing : at {V = ℕ} nat_eq ((1, 10) ∷ (2, 20) ∷ []) 3 ≡ None
at-missing = refl

at-empty : at {V = ℕ} nat_eq [] 1 ≡ None
at-empty = refl

-- the same: the key is the stored one
pair-stored : pair {V = ℕ} nat_eq ((1, 10) ∷ (2, 20) ∷ []) 2 ≡ Some (2, 20)
pair-stored = refl

pair-equal : pair {V = ℕ} half_eq ((1, 10) ∷ (2, 20) ∷ []) 3 ≡ Some (2, 20)
pair-equal = refl

pair-missing : pair {V = ℕ} nat_eq ((1, 10) ∷ (2, 20) ∷ []) 3 ≡ None
pair-missing = refl

-- at the front, behind another, and at a missing key
index_of-first : index_of {V = ℕ} nat_eq ((1, 10) ∷ (2, 20) ∷ []) 1 ≡ Some 0
index_of-first = refl

index_of-second : index_of {V = ℕ} nat_eq ((1, 10) ∷ (2, 20) ∷ []) 2 ≡ Some 1
index_of-second = refl

index_of-missing : index_of {V = ℕ} nat_eq ((1, 10) ∷ (2, 20) ∷ []) 3 ≡ None
index_of-missing = refl

-- a stored key, one that is equal to a stored one, and a missing one
has-stored : has {V = ℕ} nat_eq ((1, 10) ∷ (2, 20) ∷ []) 2 ≡ true
has-stored = refl

has-equal : has {V = ℕ} half_eq ((1, 10) ∷ (2, 20) ∷ []) 3 ≡ true
has-equal = refl

has-missing : has {V = ℕ} nat_eq ((1, 10) ∷ (2, 20) ∷ []) 3 ≡ false
has-missing = refl

-- where there is room, in a full list a stored key and a new one, and at capacity 0
fits-room : fits {V = ℕ} nat_eq 3 ((1, 10) ∷ (2, 20) ∷ []) 3 ≡ true
fits-room = refl

fits-full_stored : fits {V = ℕ} nat_eq 2 ((1, 10) ∷ (2, 20) ∷ []) 2 ≡ true
fits-full_stored = refl

fits-full_new : fits {V = ℕ} nat_eq 2 ((1, 10) ∷ (2, 20) ∷ []) 3 ≡ false
fits-full_new = refl

fits-no_capacity : fits {V = ℕ} nat_eq 0 [] 1 ≡ false
fits-no_capacity = refl

module _ {K V : Type 0} (eq : K → K → Bool) where
  -- v is the value of k: a stored key stays where it is, and a new pair goes last
  unfoldable pub put : List (K × V) → K → V → List (K × V)
  put pairs k v = if has eq pairs k then set_value (eq k) pairs v else pairs ++ (k, v) ∷ []

  -- `put` if the key fits, else no change
  abbrev pub put_if_fits : ℕ → List (K × V) → K → V → List (K × V)
  put_if_fits N pairs k v = if fits eq N pairs k then put pairs k v else pairs

  -- `put`, but k takes the place of the stored key that is equal to it
  unfoldable pub put_key : List (K × V) → K → V → List (K × V)
  put_key pairs k v = if has eq pairs k then set_key (eq k) (set_value (eq k) pairs v) k else pairs ++ (k, v) ∷ []

-- at a stored key, at one that is equal to a stored one, at a new one, and in an empty list
put-stored : put {V = ℕ} nat_eq ((1, 10) ∷ (2, 20) ∷ []) 1 11 ≡ (1, 11) ∷ (2, 20) ∷ []
unfolding put
put-stored = refl

put-equal : put {V = ℕ} half_eq ((2, 20) ∷ (4, 40) ∷ []) 3 21 ≡ (2, 21) ∷ (4, 40) ∷ []
unfolding put
put-equal = refl

put-new : put {V = ℕ} nat_eq ((1, 10) ∷ (2, 20) ∷ []) 3 30 ≡ (1, 10) ∷ (2, 20) ∷ (3, 30) ∷ []
unfolding put
put-new = refl

put-empty : put {V = ℕ} nat_eq [] 1 10 ≡ (1, 10) ∷ []
unfolding put
put-empty = refl

-- in a full list, at a stored key and at a new one
put_if_fits-full_stored : put_if_fits {V = ℕ} nat_eq 2 ((1, 10) ∷ (2, 20) ∷ []) 2 21 ≡ (1, 10) ∷ (2, 21) ∷ []
unfolding put
put_if_fits-full_stored = refl

put_if_fits-full_new : put_if_fits {V = ℕ} nat_eq 2 ((1, 10) ∷ (2, 20) ∷ []) 3 30 ≡ (1, 10) ∷ (2, 20) ∷ []
put_if_fits-full_new = refl

-- at a key that is equal to a stored one, and at a new one
put_key-equal : put_key {V = ℕ} half_eq ((2, 20) ∷ (4, 40) ∷ []) 3 21 ≡ (3, 21) ∷ (4, 40) ∷ []
unfolding put_key
put_key-equal = refl

put_key-new : put_key {V = ℕ} half_eq ((2, 20) ∷ (4, 40) ∷ []) 6 60 ≡ (2, 20) ∷ (4, 40) ∷ (6, 60) ∷ []
unfolding put_key
put_key-new = refl

module _ {K V : Type 0} (eq : K → K → Bool) where
  -- without the pair whose key equals k; the others keep their order
  unfoldable pub take_out : List (K × V) → K → List (K × V)
  take_out pairs k = remove_entry (eq k) pairs

-- from the middle, from the end, and at a missing key
take_out-middle : take_out {V = ℕ} nat_eq ((1, 10) ∷ (2, 20) ∷ (3, 30) ∷ (4, 40) ∷ []) 2 ≡ (1, 10) ∷ (3, 30) ∷ (4, 40) ∷ []
unfolding take_out
take_out-middle = refl

take_out-last : take_out {V = ℕ} nat_eq ((1, 10) ∷ (2, 20) ∷ (3, 30) ∷ []) 3 ≡ (1, 10) ∷ (2, 20) ∷ []
unfolding take_out
take_out-last = refl

take_out-missing : take_out {V = ℕ} nat_eq ((1, 10) ∷ (2, 20) ∷ (3, 30) ∷ []) 9 ≡ (1, 10) ∷ (2, 20) ∷ (3, 30) ∷ []
unfolding take_out
take_out-missing = refl
