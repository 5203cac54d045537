-- The keyed calls of a map of capacity N, what each answers, and what a list of them does.
use Rattle.std.specs.Prelude.{◌≡◌, ℕ, Bool, true, false, ◌&&◌, List, [], ◌∷◌, length, nat_eq, Option, Some, None, refl, if◌then◌else◌, ◌==◌}
use Rattle.std.specs.Bool.{beq}
use Rattle.std.specs.Option.{option_eq}
use Rattle.micromap_core.specs.Examples.{half_eq}
use Rattle.micromap_core.specs.Pairs.{at, pair, has, fits, put, put_if_fits, put_key, take_out}

-- the calls that read or change a map by its keys
pub data Call (K V : Type 0) : Type 0 where
  insert : K → V → Call K V
  insert_key_value : K → V → Call K V
  get : K → Call K V
  get_key_value : K → Call K V
  contains : K → Call K V
  remove : K → Call K V
  remove_entry : K → Call K V
  len : Call K V
  is_empty : Call K V
  clear : Call K V

-- what a call answers: a value or none, a pair or none, whether, how many, that it is done, or that there is no room
pub data Answer (K V : Type 0) : Type 0 where
  value : Option V → Answer K V
  entry : Option (K × V) → Answer K V
  truth : Bool → Answer K V
  number : ℕ → Answer K V
  done : Answer K V
  refused : Answer K V

module _ {K V : Type 0} (eq : K → K → Bool) (N : ℕ) where
  -- what the call answers
  abbrev pub answer : List (K × V) → Call K V → Answer K V
  answer pairs (insert k v) = if fits eq N pairs k then value (at eq pairs k) else refused
  answer pairs (insert_key_value k v) = if fits eq N pairs k then entry (pair eq pairs k) else refused
  answer pairs (get k) = value (at eq pairs k)
  answer pairs (get_key_value k) = entry (pair eq pairs k)
  answer pairs (contains k) = truth (has eq pairs k)
  answer pairs (remove k) = value (at eq pairs k)
  answer pairs (remove_entry k) = entry (pair eq pairs k)
  answer pairs len = number (length pairs)
  answer pairs is_empty = truth (length pairs == 0)
  answer pairs clear = done

-- at a stored key, at a new one, in a full list, at a key that is equal to a stored one, and of the whole list
answer-insert_stored : answer {V = ℕ} nat_eq 2 ((1, 10) ∷ []) (insert 1 11) ≡ value (Some 10)
answer-insert_stored = refl

answer-insert_new : answer {V = ℕ} nat_eq 2 ((1, 10) ∷ []) (insert 2 20) ≡ value None
answer-insert_new = refl

answer-insert_full : answer {V = ℕ} nat_eq 1 ((1, 10) ∷ []) (insert 2 20) ≡ refused
answer-insert_full = refl

answer-insert_key_value : answer {V = ℕ} half_eq 1 ((2, 20) ∷ []) (insert_key_value 3 30) ≡ entry (Some (2, 20))
answer-insert_key_value = refl

answer-get_key_value : answer {V = ℕ} half_eq 1 ((2, 20) ∷ []) (get_key_value 3) ≡ entry (Some (2, 20))
answer-get_key_value = refl

answer-remove_missing : answer {V = ℕ} nat_eq 1 ((1, 10) ∷ []) (remove 2) ≡ value None
answer-remove_missing = refl

answer-len : answer {V = ℕ} nat_eq 2 ((1, 10) ∷ (2, 20) ∷ []) len ≡ number 2
answer-len = refl

module _ {K V : Type 0} (eq : K → K → Bool) (N : ℕ) where
  -- what the call leaves
  abbrev pub after : List (K × V) → Call K V → List (K × V)
  after pairs (insert k v) = put_if_fits eq N pairs k v
  after pairs (insert_key_value k v) = if fits eq N pairs k then put_key eq pairs k v else pairs
  after pairs (remove k) = take_out eq pairs k
  after pairs (remove_entry k) = take_out eq pairs k
  after pairs clear = []
  after pairs call = pairs

-- in a full list at a new key, at a key that is equal to a stored one, of a removal, and of a look-up
after-insert_full : after {V = ℕ} nat_eq 1 ((1, 10) ∷ []) (insert 2 20) ≡ (1, 10) ∷ []
after-insert_full = refl

after-insert_equal : after {V = ℕ} half_eq 1 ((2, 20) ∷ []) (insert 3 30) ≡ (2, 30) ∷ []
unfolding put
after-insert_equal = refl

after-insert_key_value_equal : after {V = ℕ} half_eq 1 ((2, 20) ∷ []) (insert_key_value 3 30) ≡ (3, 30) ∷ []
unfolding put_key
after-insert_key_value_equal = refl

after-remove : after {V = ℕ} nat_eq 3 ((1, 10) ∷ (2, 20) ∷ (3, 30) ∷ []) (remove 1) ≡ (2, 20) ∷ (3, 30) ∷ []
unfolding take_out
after-remove = refl

after-contains : after {V = ℕ} nat_eq 2 ((1, 10) ∷ []) (contains 2) ≡ (1, 10) ∷ []
after-contains = refl

module _ {K V : Type 0} (eq : K → K → Bool) (N : ℕ) where
  -- the answers of the calls in turn, and the pairs that they leave
  abbrev pub run : List (K × V) → List (Call K V) → List (Answer K V) × List (K × V)
  run pairs [] = ([], pairs)
  run pairs (call ∷ calls) = let rest = run (after eq N pairs call) calls in (answer eq N pairs call ∷ rest.0, rest.1)

-- of no call, in a list that a call fills, and in a full list
run-none : run {V = ℕ} nat_eq 1 ((1, 10) ∷ []) [] ≡ ([], (1, 10) ∷ [])
run-none = refl

run-fills : run {V = ℕ} nat_eq 2 ((1, 10) ∷ []) (insert 2 20 ∷ insert 3 30 ∷ []) ≡ (value None ∷ refused ∷ [], (1, 10) ∷ (2, 20) ∷ [])
unfolding put
run-fills = refl

run-full : run {V = ℕ} nat_eq 1 ((1, 10) ∷ []) (insert 1 11 ∷ get 1 ∷ remove 1 ∷ len ∷ []) ≡ (value (Some 10) ∷ value (Some 11) ∷ value (Some 11) ∷ number 0 ∷ [], [])
unfolding put take_out
run-full = refl

module _ {K V : Type 0} (eq : K → K → Bool) (same : V → V → Bool) where
  -- whether two answers agree: of one kind, with equal values, equal keys and values, or the same number or truth value
  abbrev pub agree : Answer K V → Answer K V → Bool
  agree (value x) (value y) = option_eq same x y
  agree (entry p) (entry q) = option_eq (λ a b. eq a.0 b.0 && same a.1 b.1) p q
  agree (truth x) (truth y) = beq x y
  agree (number m) (number n) = m == n
  agree done done = true
  agree refused refused = true
  agree x y = false

-- values that are equal, keys that are equal and aren't the same, unequal values, and answers of two kinds
agree-values : agree {K = ℕ} nat_eq nat_eq (value (Some 10)) (value (Some 10)) ≡ true
agree-values = refl

agree-equal_keys : agree half_eq nat_eq (entry (Some (2, 20))) (entry (Some (3, 20))) ≡ true
agree-equal_keys = refl

agree-unequal_values : agree {K = ℕ} nat_eq nat_eq (value (Some 10)) (value (Some 11)) ≡ false
agree-unequal_values = refl

agree-kinds : agree {K = ℕ} nat_eq nat_eq (value None) refused ≡ false
agree-kinds = refl
