-- For callers: loops over a map that build another one, or put its pairs into another; that each pair or key that a loop
-- comes to is in the map; the sum of a map's values after a change, and the sum of what a function makes of each value; and
-- what a closure that changes no capture leaves of a map, and of a list of items. The ruleset `loops` of `Rules` has what
-- the first of these need, and `caller` what the others need.
use Rattle.std.proofs.Common.{◌≡◌, ℕ, ◌+◌, ◌<◌, ◌≤◌, ◌||◌, [], ◌∷◌, ◌++◌, ◌∙◌, ◌-◌, add-one, ap, append_assoc, arith, drop, drop-cons}
use Rattle.std.proofs.Common.{false, filter, get_or, length, lt-ltb, map, option_map, refl, subst, suc, sum, sum_by, sym, true, unwrap_or}
use Rattle.std.proofs.Common.{Bool, Bor, List, MutBor, Option, Some}
use Rattle.std.specs.{Fn.Mut, List.Retain.ReturnsInTurn, Map.keys_of, Map.lookup, Map.values_of, Map.Calls.RetainsPairs, Option.option_eq}
use Rattle.std.specs.List.{enumerate_from, items_where_true, list_all, range_with_len, FoldsTo, IsDistinct}
use Rattle.std.proofs.Math.Bool.{or-true}
use Rattle.std.proofs.lemmas.{Fn.filter_same, List.Sums.list_all-from_AllPass, List.Sums.sum_by_push, Map.Steps.lookup-le-sum}
use Rattle.std.proofs.lemmas.List.{drop_all, length-append, map-append, map-id, map_push}
use Rattle.std.proofs.lemmas.Map.Entries.{lookup_from_place, sum_by-remove_entry, sum_by-set_value}
use Rattle.std.proofs.lemmas.Map.Made.{filter_same_pairs, is_some-lookup, All-is_member, IsDistinct-keys_filter}
use Rattle.std.proofs.lemmas.{Option.slice_get-get_or, Simd.map-map}
use Rattle.micromap_core.specs.{Build.build, Build.put_all, Equalities.Lawful, Same.has_value}
use Rattle.micromap_core.specs.Closures.{updated_disjoint, CalledOnPair, CalledOnValue, UpdateAllTurn, UpdateDisjointTurn}
use Rattle.micromap_core.specs.Pairs.{at, fits, has, put, take_out, IsUnique}
use Rattle.micromap_core.proofs.{Laws.ClosureLemmas.seen, Laws.ClosureLemmas.updated_at_keys, Laws.DistinctLemmas.new_behind}
use Rattle.micromap_core.proofs.Laws.KeyedLemmas.{built_in_turn}
use Rattle.micromap_core.proofs.Laws.Equalities.{equalities, of_lawful, Trigger}
use Rattle.micromap_core.proofs.Laws.MapLaws.{length_put, not_fits, put_new}

module _ {K V : Type 0} (eq : K → K → Bool) where
  -- with room each key fits
  pub fits_room : (N : ℕ) (pairs : List (K × V)) (k : K) → length pairs < N → fits eq N pairs k ≡ true
  fits_room N pairs k room = ap (λ b. has eq pairs k || b) (lt-ltb (length pairs) N room) ∙ or-true (has eq pairs k)

  -- pairs that are done and pairs that are left: a new key goes between them
  pub put_first_of_rest : (done rest : List (K × V)) (k : K) (v : V) → has eq done k ≡ false
      → put eq done k v ++ rest ≡ done ++ (k, v) ∷ rest
  put_first_of_rest done rest k v missing = ap (λ l. l ++ rest) (put_new eq done k v missing) ∙ append_assoc done ((k, v) ∷ []) rest

  -- the key of the next pair is none of those that are done, since keys are distinct
  pub has_done : (done rest : List (K × V)) (p : K × V) → Lawful eq → IsUnique eq (done ++ p ∷ rest) → has eq done p.0 ≡ false
  has_done done rest p laws unique = is_some-lookup (eq p.0) done ∙ new_behind (of_lawful eq laws) (keys_of done) p.0 (keys_of rest)
      (subst (IsDistinct eq) (map-append (λ (q : K × V). q.0) done (p ∷ rest)) unique)

  pub copied_next : (done rest : List (K × V)) (k : K) (v : V) → Lawful eq
      → IsUnique eq (done ++ (k, v) ∷ rest) → put eq done k v ++ rest ≡ done ++ (k, v) ∷ rest
  copied_next done rest k v laws unique = put_first_of_rest done rest k v (has_done done rest (k, v) laws unique)

  -- pairs with other values at the same keys have distinct keys too
  pub unique_map : {W : Type 0} (f : K × V → K × W) (pairs : List (K × V))
      → ((p : K × V) → (f p).0 ≡ p.0) → IsUnique eq pairs → IsUnique eq (map f pairs)
  unique_map f pairs same unique = subst (IsDistinct eq)
      (sym (map-map (λ q. q.0) f pairs ∙ ap (λ key. map key pairs) (λ i p. same p i))) unique

  -- pairs with distinct keys are built as they are
  pub build_unique : (pairs : List (K × V)) → Lawful eq → IsUnique eq pairs → build eq pairs ≡ pairs
  build_unique pairs laws unique = built_in_turn (of_lawful eq laws) [] pairs unique

  -- a list of pairs that is put takes none away
  pub length_le_put_all : (pairs items : List (K × V)) → length pairs ≤ length (put_all eq pairs items)
  length_le_put_all pairs [] = omega arith
  length_le_put_all pairs (p ∷ items) = grind (arith, length_put eq pairs p.0 p.1, length_le_put_all (put eq pairs p.0 p.1) items)

-- what a loop over a list leaves: all from the index on, as they are and as a function reads them
module _ {X : Type 0} (items : List X) (i : ℕ) where
  pub each_left : Trigger (drop i items) ((length items ≤ i → drop i items ≡ [])
      × ((d : X) → i < length items → drop i items ≡ get_or items i d ∷ drop (i + 1) items))
  each_left = (refl, (drop_all i items, λ d within. rw (drop-cons items i d within, add-one) refl))

  pub each_left_map : {Y : Type 0} (read : X → Y) → Trigger (map read (drop i items)) ((length items ≤ i → map read (drop i items) ≡ [])
      × ((d : X) → i < length items → map read (drop i items) ≡ read (get_or items i d) ∷ map read (drop (i + 1) items)))
  each_left_map read = (refl, ((λ past. ap (map read) (each_left.1.0 past)), λ d within. ap (map read) (each_left.1.1 d within)))

-- the numbers that a loop over a range has left
pub each_range : (a b : ℕ) → Trigger (range_with_len a (b - a)) ((b ≤ a → range_with_len a (b - a) ≡ [])
    × (a < b → range_with_len a (b - a) ≡ a ∷ range_with_len (a + 1) (b - (a + 1))))
each_range a b = (refl, (λ past. ap (range_with_len a) (none past), λ within. ap (range_with_len a) (one within)))
  where
    none : b ≤ a → b - a ≡ 0
    none past = omega (arith, past)

    one : a < b → b - a ≡ suc (b - (a + 1))
    one within = omega (arith, within)

pub ruleset loop_laws = (
  each_range,
  fits_room,
  not_fits,
  copied_next,
  IsDistinct-keys_filter,
  unique_map,
  build_unique,
  length_put,
  length_le_put_all,
  length-append,
  equalities,
)

module _ {K V : Type 0} (f : V → ℕ) (eq : K → K → Bool) (pairs : List (K × V)) (k : K) where
  pub sum_by_put : (v : V) → sum_by f (values_of (put eq pairs k v)) + unwrap_or
      (option_map f (at eq pairs k)) 0 ≡ sum_by f (values_of pairs) + f v
  unfolding put
  sum_by_put v = grind (
    arith,
    map_push (λ (e : K × V). e.1) pairs (k, v),
    sum_by_push f (values_of pairs) v,
    λ (u : V). sum_by-set_value f (eq k) pairs u v,
  )

  pub sum_by_take_out : sum_by f (values_of (take_out eq pairs k)) + unwrap_or (option_map f (at eq pairs k)) 0 ≡ sum_by f (values_of pairs)
  unfolding take_out
  sum_by_take_out = sum_by-remove_entry f (eq k) pairs

same_number : (o : Option ℕ) → unwrap_or (option_map (λ n. n) o) 0 ≡ unwrap_or o 0
same_number o = grind arith

module _ {K : Type 0} (eq : K → K → Bool) (pairs : List (K × ℕ)) (k : K) where
  pub sum_put : (n : ℕ) → sum (values_of (put eq pairs k n)) + unwrap_or (at eq pairs k) 0 ≡ sum (values_of pairs) + n
  sum_put n = ap (λ m. sum (values_of (put eq pairs k n)) + m) (sym (same_number (at eq pairs k))) ∙ sum_by_put (λ n. n) eq pairs k n

  pub sum_take_out : sum (values_of (take_out eq pairs k)) + unwrap_or (at eq pairs k) 0 ≡ sum (values_of pairs)
  sum_take_out = ap (λ m. sum (values_of (take_out eq pairs k)) + m)
      (sym (same_number (at eq pairs k))) ∙ sum_by_take_out (λ n. n) eq pairs k

-- a value is at most the sum
pub lookup_le_sum : {K : Type 0} (test : K → Bool) (pairs : List (K × ℕ))
    → Trigger (lookup test pairs) (unwrap_or (lookup test pairs) 0 ≤ sum (values_of pairs))
lookup_le_sum test pairs = (refl, lookup-le-sum test pairs)

pub ruleset sum_laws = (sum_by_put, sum_by_take_out, sum_put, sum_take_out, lookup_le_sum)

-- `retain`
module _ {F K V : Type 0} (T : F → K → V → Bool → V → F → Type 0) (f : F) (pairs new : List (K × V)) (test : K × V → Bool) where
  pub retained : RetainsPairs T f pairs new → ((k : K) (v : V) (b : Bool) (w : V) (t : F) → T f k v b w t
      → (b ≡ test (k, v)) × (w ≡ v) × (t ≡ f)) → new ≡ filter test pairs
  retained calls pure = filter_same_pairs T test f pure pairs new calls

module _ {F X : Type 0} (R : F → X → Bool → F → Type 0) (f q : F) (bs : List Bool) (items new : List X) (test : X → Bool) where
  pub retained_items : length bs ≡ length items → ReturnsInTurn R f bs items q → new ≡ items_where_true bs items
      → ((x : X) (b : Bool) (t : F) → R f x b t → (b ≡ test x) × (t ≡ f)) → new ≡ filter test items
  retained_items long told kept pure = filter_same R test f pure items new (bs, q, long, told, kept)

-- `update_all`
module _ {F K V R : Type 0} (g : Mut F (Bor K × (MutBor V × Unit {0})) (R × (MutBor V × Unit {0})))
    (f last : F) (pairs new : List (K × V)) (h : K × V → K × V) where
  pub updated : FoldsTo (UpdateAllTurn g) (f, []) pairs (last, new) → ((k : K) (v : V) (r : R) (w : V) (t : F) → CalledOnPair g f k v r w t
      → ((k, w) ≡ h (k, v)) × (t ≡ f)) → new ≡ map h pairs
  updated turns pure = sym (map-id new) ∙ seen g f last pairs new (λ p. p) h turns pure

-- `update_disjoint`
module _ {F K V R : Type 0} (eq : K → K → Bool) (g : Mut F (ℕ × (MutBor V × Unit {0})) (R × (MutBor V × Unit {0}))) (f last : F)
    (pairs new : List (K × V)) (keys : List K) (h : ℕ → V → V) where
  pub updated_keys : FoldsTo (UpdateDisjointTurn eq g) (f, pairs) (enumerate_from 0 keys)
      (last, new) → ((i : ℕ) (v : V) (r : R) (w : V) (t : F) → CalledOnValue g f i v r w t
      → (w ≡ h i v) × (t ≡ f)) → new ≡ updated_disjoint eq h pairs keys
  updated_keys turns pure = updated_at_keys h (record { last = last; turns = turns }) pure

pub ruleset closure_laws = (retained, retained_items, updated, updated_keys)

-- each pair that a loop over a map comes to is what its key finds: so of what is left at the start, which is all
module _ {K V : Type 0} (eq : K → K → Bool) where
  pub at_walked : (same : V → V → Bool) (pairs left : List (K × V)) → left ≡ pairs → Lawful eq
      → Lawful same → IsUnique eq pairs → list_all (has_value eq same pairs) left ≡ true
  at_walked same pairs left all laws values unique = ap (list_all (has_value eq same pairs)) all
      ∙ list_all-from_AllPass (has_value eq same pairs) pairs (λ i d within.
      let p = get_or pairs i d in
      ap (λ o. option_eq same o (Some p.1)) (lookup_from_place (of_lawful eq laws) pairs i p.0 p.1 unique
      (slice_get-get_or pairs i d within)) ∙ (of_lawful same values).refl p.1)

  pub has_walked : (pairs : List (K × V)) (left : List K) → left ≡ keys_of pairs → Lawful eq → list_all (has eq pairs) left ≡ true
  has_walked pairs left all laws = ap (list_all (has eq pairs)) all ∙ list_all-from_AllPass (has eq pairs) (keys_of pairs)
      (λ i d within. is_some-lookup (eq (get_or (keys_of pairs) i d)) pairs ∙ All-is_member (of_lawful eq laws) (keys_of pairs) i d within)

pub ruleset walk_laws = (at_walked, has_walked, each_range)
