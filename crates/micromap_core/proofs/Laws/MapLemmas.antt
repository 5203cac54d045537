-- For proofs: what a test of keys finds in a list of pairs, and what a change of a map makes of it: the lemmas behind
-- `MapLaws`, `ProbedLaws` and the answers of the map's calls. The first part is about the index of the first key that
-- passes a test.
use Rattle.std.proofs.Common.{◌≡◌, ℕ, ◌+◌, ◌<◌, ◌≤◌, [], ◌∷◌, ◌++◌, ◌∙◌, ap, arith, cond, false, filter, get_or, if◌then◌else◌, is_some}
use Rattle.std.proofs.Common.{length, not, refl, reverse, set, slice_get, slice_set, subst, suc, sym, true, zero, Bool, IfNone, IfSome}
use Rattle.std.proofs.Common.{List, None, Option, Some, set-set}
use Rattle.std.specs.{Cmp.IsEquivalence, Option.option_map, Option.option_map_or, Option.option_or}
use Rattle.std.specs.List.{position_or_len, remove, AllByRecursion, IsDistinct}
use Rattle.std.specs.Map.{keys_of, lookup, lookup_entry, remove_entry, set_key, set_value}
use Rattle.std.proofs.lemmas.{Bool.false≢true, Bool.Decides.nat_tests, List.Sorted.IsPermutation-map, List.Sorted.IsPermutation-remove}
use Rattle.std.proofs.lemmas.{Map.keys-set_value, List.Edits.length-remove, Map.Entries.length-keys_of}
use Rattle.std.proofs.lemmas.List.{get_or-map, length-append, length-map, length-set, map-set, map_push, reverse-append, set-get_or}
use Rattle.std.proofs.lemmas.Map.Keys.{IsDistinct-IsPermutation, IsDistinct-push, IsDistinct-tail}
use Rattle.std.proofs.lemmas.Option.{get_or_from_slice_get, slice_get_within}
use Rattle.micromap_core.specs.{Closures.IsSublist, Equalities.IsProbe, Found.FoundAt, Found.NotFound}
use Rattle.micromap_core.specs.Pairs.{first_index, has, pair, put, put_key, with_value_at, without_at, IsContent, IsUnique}
use Rattle.micromap_core.proofs.Laws.Equalities.{lawful, of_lawful}
use Rattle.micromap_core.proofs.Laws.SublistLaws.{length-sublist, IsDistinct-sublist}
use Rattle.std.proofs.Math.Seq.{set-append_seam}
use Rattle.micromap_walk.proofs.Laws.Lists.{slice_get-set_same}
use Rattle.micromap_core.proofs.Laws.Lists.{remove-set, slice_get_seam}

module _ {K V : Type 0} (test : K → Bool) where
  -- the first index whose key passes, or the length
  abbrev first : List (K × V) → ℕ
  first pairs = position_or_len test (keys_of pairs)

  found_step : (e : K × V) (es : List (K × V)) → ((i : ℕ) → first es ≡ i → i < length es → FoundAt test es i) → (b : Bool) → test e.0 ≡ b
      → (i : ℕ) → cond (not b) (1 + first es) 0 ≡ i → i < length (e ∷ es) → FoundAt test (e ∷ es) i
  unfolding without_at
  found_step e es rest true h zero at within = record {
    pair = e;
    within = within;
    here = refl;
    passes = h;
    entry = rw h refl;
    value = rw h refl;
    written = λ v. rw h refl;
    replaced = λ k v. simp h;
    taken = rw h refl;
  }
  found_step e es rest true h (suc i) at within = absurd (cc)
  found_step e es rest false h zero at within = absurd (omega (arith, at))
  found_step e es rest false h (suc i) at within =
      let f = rest i (omega (arith, at)) (omega arith) in record {
        pair = f.pair;
        within = within;
        here = f.here;
        passes = f.passes;
        entry = rw h f.entry;
        value = rw h f.value;
        written = λ v. rw h (ap (λ l. e ∷ l) (f.written v));
        replaced = λ k v. simp h (ap (λ l. e ∷ l) (f.replaced k v));
        taken = rw h (ap (λ l. e ∷ l) f.taken);
      }

  found_from : (pairs : List (K × V)) (i : ℕ) → first pairs ≡ i → i < length pairs → FoundAt test pairs i
  found_from [] i at within = absurd (omega arith)
  found_from (e ∷ es) i at within = found_step e es (found_from es) (test e.0) refl i at within

  missing_step : (e : K × V) (es : List (K × V)) → (length es ≤ first es → NotFound test es)
      → (b : Bool) → test e.0 ≡ b → length (e ∷ es) ≤ cond (not b) (1 + first es) 0 → NotFound test (e ∷ es)
  missing_step e es rest true h past = absurd (omega (arith, past))
  missing_step e es rest false h past =
      let n = rest (omega (arith, past)) in record {
        entry = rw h n.entry;
        value = rw h n.value;
        written = λ v. rw h (ap (λ l. e ∷ l) (n.written v));
        taken = rw h (ap (λ l. e ∷ l) n.taken);
        none = rw h n.none;
      }

  missing_from : (pairs : List (K × V)) → length pairs ≤ first pairs → NotFound test pairs
  missing_from [] past = record {
    entry = refl;
    value = refl;
    written = λ v. refl;
    taken = refl;
    none = refl;
  }
  missing_from (e ∷ es) past = missing_step e es (missing_from es) (test e.0) refl past

  module _ (pairs : List (K × V)) where
    -- the index of a key
    pub found_at : (i : ℕ) → first_index test pairs ≡ Some i → FoundAt test pairs i
    found_at i found =
        let n = length-map pairs (λ (e : K × V). e.0) in
        found_from pairs i (grind (arith, nat_tests)) (grind (arith, nat_tests))

    pub not_found : first_index test pairs ≡ None → NotFound test pairs
    not_found missing =
        let n = length-map pairs (λ (e : K × V). e.0) in
        missing_from pairs (grind (arith, nat_tests))

-- an index is answered where there is a value
pub is_found : {K V : Type 0} (test : K → Bool) (pairs : List (K × V)) (o : Option ℕ)
    → IfSome o (FoundAt test pairs) → IfNone o (NotFound test pairs) → is_some o ≡ is_some (lookup test pairs)
is_found test pairs None found missing = ap is_some (sym missing.value)
is_found test pairs (Some i) found missing = ap is_some (sym found.value)

module _ {K V : Type 0} (test : K → Bool) where
  -- the value of the first pair whose key passes
  pub lookup-entry : (pairs : List (K × V)) → lookup test pairs ≡ option_map (λ e. e.1) (lookup_entry test pairs)
  lookup-entry [] = refl
  lookup-entry (e ∷ es) = grind (arith, lookup-entry es)

  -- a write at the index at which a key passes
  pub written_at : (pairs : List (K × V)) (i : ℕ) → FoundAt test pairs i → (v : V) → with_value_at pairs i v ≡ set_value test pairs v
  written_at pairs i f v = rw f.here (sym (f.written v))

module _ {K V : Type 0} (eq : K → K → Bool) (k : K) (pairs : List (K × V)) where
  -- the key stands at the index
  module _ (i : ℕ) (f : FoundAt (eq k) pairs i) where
    -- a write there puts
    pub with_value_at-put : (v : V) → with_value_at pairs i v ≡ put eq pairs k v
    unfolding put
    with_value_at-put v = rw f.value (written_at (eq k) pairs i f v)

    pub slice_set-put_key : (v : V) → slice_set pairs i (k, v) ≡ put_key eq pairs k v
    unfolding put_key
    slice_set-put_key v = rw f.value (sym (f.replaced k v))

  -- the key is new
  module _ (n : NotFound (eq k) pairs) where
    -- a push puts
    pub push-put : (v : V) → pairs ++ (k, v) ∷ [] ≡ put eq pairs k v
    unfolding put
    push-put v = rw n.value refl

    pub push-put_key : (v : V) → pairs ++ (k, v) ∷ [] ≡ put_key eq pairs k v
    unfolding put_key
    push-put_key v = rw n.value refl

-- another value at the index of a pair leaves the keys
keys_of-set : {K V : Type 0} (pairs : List (K × V)) (i : ℕ) (p : K × V) (v : V)
    → slice_get pairs i ≡ Some p → keys_of (set pairs i (p.0, v)) ≡ keys_of pairs
keys_of-set {K} {V} pairs i p v here =
    let key : K × V → K = λ e. e.0 in
    let read = get_or-map key pairs i p p.0 (slice_get_within pairs i p here) ∙ ap key (get_or_from_slice_get pairs i p p here) in
    map-set key pairs i (p.0, v) ∙ ap (λ q. set (keys_of pairs) i q) (sym read) ∙ set-get_or (keys_of pairs) i p.0

module _ {K : Type 0} (eq : K → K → Bool) (laws : IsEquivalence eq) (k old : K) (same : eq k old ≡ true) where
  -- what differs from a key differs from an equal one
  apart_equal : (ks : List K) → AllByRecursion (λ y. eq old y ≡ false) ks → AllByRecursion (λ y. eq k y ≡ false) ks
  apart_equal [] apart = tt
  apart_equal (y ∷ ks) apart = (laws.congr k old y same ∙ apart.0, apart_equal ks apart.1)

  apart_set : (x : K) (ks : List K) (i : ℕ) → get_or ks i old ≡ old
      → AllByRecursion (λ y. eq x y ≡ false) ks → AllByRecursion (λ y. eq x y ≡ false) (set ks i k)
  apart_set x [] i read apart = tt
  apart_set x (y ∷ ks) zero read apart = (
    laws.symm x k ∙ laws.congr k old x same ∙ laws.symm old x ∙ ap (eq x) (sym read) ∙ apart.0,
    apart.1,
  )
  apart_set x (y ∷ ks) (suc i) read apart = (apart.0, apart_set x ks i read apart.1)

  -- an equal key at the index of a key
  IsDistinct-set_equal : (ks : List K) (i : ℕ) → get_or ks i old ≡ old → IsDistinct eq ks → IsDistinct eq (set ks i k)
  unfolding IsDistinct
  IsDistinct-set_equal [] i read distinct = tt
  IsDistinct-set_equal (x ∷ ks) zero read distinct = (
    apart_equal ks (subst (λ y. AllByRecursion (λ z. eq y z ≡ false) ks) read distinct.0),
    distinct.1,
  )
  IsDistinct-set_equal (x ∷ ks) (suc i) read distinct = (apart_set x ks i read distinct.0, IsDistinct-set_equal ks i read distinct.1)

module _ {K V : Type 0} (eq : K → K → Bool) (laws : IsEquivalence eq) (pairs : List (K × V)) (unique : IsUnique eq pairs) where
  -- another value at the index of a pair
  pub IsUnique-set : (i : ℕ) (p : K × V) (v : V) → slice_get pairs i ≡ Some p → IsUnique eq (set pairs i (p.0, v))
  IsUnique-set i p v here = subst (IsDistinct eq) (sym (keys_of-set pairs i p v here)) unique

  IsUnique-with_value_at : (i : ℕ) (v : V) → IsUnique eq (with_value_at pairs i v)
  IsUnique-with_value_at i v = elim (slice_get pairs i) as (λ o. slice_get pairs i ≡ o
      → IsUnique eq (option_map_or (λ p. set pairs i (p.0, v)) o pairs)) [
        | None ↦ λ e. unique
        | Some p ↦ λ e. IsUnique-set i p v e
      ] refl

  -- an equal key at the index of a pair
  pub IsUnique-set_key : (i : ℕ) (p : K × V) (k : K) (v : V) → slice_get pairs i ≡ Some p
      → eq k p.0 ≡ true → IsUnique eq (set pairs i (k, v))
  IsUnique-set_key i p k v here same =
      let key : K × V → K = λ e. e.0 in
      let read = get_or-map key pairs i p p.0 (slice_get_within pairs i p here) ∙ ap key (get_or_from_slice_get pairs i p p here) in
      subst (IsDistinct eq) (sym (map-set key pairs i (k, v))) (IsDistinct-set_equal eq laws k p.0 same (keys_of pairs) i read unique)

  -- a pair whose key is new
  pub IsUnique-push : (k : K) (v : V) → NotFound (eq k) pairs → IsUnique eq (pairs ++ (k, v) ∷ [])
  IsUnique-push k v missing = rw (map_push (λ (e : K × V). e.0) pairs (k, v)) (IsDistinct-push laws (keys_of pairs) k unique missing.none)

  -- without the pair at an index
  pub IsUnique-remove : (i : ℕ) (p : K × V) → slice_get pairs i ≡ Some p → IsUnique eq (remove pairs i)
  IsUnique-remove i p here =
      let moved = IsPermutation-map (λ (e : K × V). e.0) _ _ (IsPermutation-remove pairs i p (slice_get_within pairs i p here)
      (sym (get_or_from_slice_get pairs i p p here))) in
      IsDistinct-tail eq p.0 _ (IsDistinct-IsPermutation eq laws.symm _ _ moved unique)

module _ {K V : Type 0} (pairs : List (K × V)) (i : ℕ) (v : V) where
  length-with_value_at : length (with_value_at pairs i v) ≡ length pairs
  length-with_value_at = elim (slice_get pairs i) as (λ o. length (option_map_or (λ p. set pairs i (p.0, v)) o pairs) ≡ length pairs) [
    | None ↦ refl
    | Some p ↦ length-set pairs i (p.0, v)
  ]

-- no pairs are the content of a map
pub IsContent-nil : {K V : Type 0} (eq : K → K → Bool) (N : ℕ) → IsEquivalence eq → IsContent {V = V} eq N []
unfolding IsDistinct
IsContent-nil eq N laws = record {
  unique = tt;
  bounded = omega arith;
  lawful = lawful eq laws;
}

-- what is the content of a map is so once the map is changed
module _ {K V : Type 0} {eq : K → K → Bool} {N : ℕ} {pairs : List (K × V)} (content : IsContent eq N pairs) where
  -- other values
  pub IsContent-same_keys : (new : List (K × V)) → keys_of new ≡ keys_of pairs → IsContent eq N new
  IsContent-same_keys new same = record {
    unique = subst (IsDistinct eq) (sym same) content.unique;
    bounded = omega (arith, content.bounded, ap length same, length-keys_of new, length-keys_of pairs);
    lawful = content.lawful;
  }

  -- some of the pairs in their order, which may have other values
  pub IsContent-sublist : (new : List (K × V)) → IsSublist (keys_of new) (keys_of pairs) → IsContent eq N new
  IsContent-sublist new order = record {
    unique = IsDistinct-sublist eq _ _ order content.unique;
    bounded = omega (arith, content.bounded, length-sublist _ _ order, length-keys_of new, length-keys_of pairs);
    lawful = content.lawful;
  }

  -- another value at the index of a pair
  pub IsContent-with_value_at : (i : ℕ) (v : V) → IsContent eq N (with_value_at pairs i v)
  IsContent-with_value_at i v = record {
    unique = IsUnique-with_value_at eq (of_lawful eq content.lawful) pairs content.unique i v;
    bounded = subst (λ n. n ≤ N) (sym (length-with_value_at pairs i v)) content.bounded;
    lawful = content.lawful;
  }

  -- an equal key at the index of a pair
  pub IsContent-set_key : (i : ℕ) (p : K × V) (k : K) (v : V) → slice_get pairs i ≡ Some p
      → eq k p.0 ≡ true → IsContent eq N (set pairs i (k, v))
  IsContent-set_key i p k v here same = record {
    unique = IsUnique-set_key eq (of_lawful eq content.lawful) pairs content.unique i p k v here same;
    bounded = subst (λ n. n ≤ N) (sym (length-set pairs i (k, v))) content.bounded;
    lawful = content.lawful;
  }

  -- a pair whose key is new
  pub IsContent-push : (k : K) (v : V) → NotFound (eq k) pairs → length pairs < N → IsContent eq N (pairs ++ (k, v) ∷ [])
  IsContent-push k v missing room = record {
    unique = IsUnique-push eq (of_lawful eq content.lawful) pairs content.unique k v missing;
    bounded = omega (arith, room, length-append pairs ((k, v) ∷ []));
    lawful = content.lawful;
  }

  -- without the pair at an index
  pub IsContent-remove : (i : ℕ) (p : K × V) → slice_get pairs i ≡ Some p → IsContent eq N (remove pairs i)
  IsContent-remove i p here = record {
    unique = IsUnique-remove eq (of_lawful eq content.lawful) pairs content.unique i p here;
    bounded = omega (arith, content.bounded, length-remove pairs i (slice_get_within pairs i p here));
    lawful = content.lawful;
  }

module _ {K V : Type 0} (eq : K → K → Bool) (pairs : List (K × V)) (k : K) (v : V) where
  -- a put of a stored key keeps the keys, and of a new one adds it at the end
  pub keys_of-put_stored : has eq pairs k ≡ true → keys_of (put eq pairs k v) ≡ keys_of pairs
  unfolding put
  keys_of-put_stored stored = ap (λ b. keys_of (if b then set_value (eq k) pairs v else pairs ++ (k, v) ∷ [])) stored
      ∙ keys-set_value (eq k) pairs v

  pub keys_of-put_new : has eq pairs k ≡ false → keys_of (put eq pairs k v) ≡ keys_of pairs ++ k ∷ []
  unfolding put
  keys_of-put_new missing = ap (λ b. keys_of (if b then set_value (eq k) pairs v else pairs ++ (k, v) ∷ [])) missing
      ∙ map_push (λ (e : K × V). e.0) pairs (k, v)

-- where all keys are apart from one that passes, none of them passes
others : {K : Type 0} (eq : K → K → Bool) (test : K → Bool) (p : IsProbe eq test) (x : K)
    → test x ≡ true → (ks : List K) → AllByRecursion (λ y. eq x y ≡ false) ks → filter (λ q. not (test q)) ks ≡ ks
others eq test p x passes [] apart = refl
others eq test p x passes (y ∷ ks) apart = let a = apart.0 in
    grind (arith, others eq test p x passes ks apart.1, p.equal_keys x y)

module _ {K V : Type 0} (eq : K → K → Bool) (test : K → Bool) (p : IsProbe eq test) where
  module _ (k : K) (v : V) where
    -- a put at a stored key, and at a new one
    pub entry_set : (pairs : List (K × V)) → has eq pairs k ≡ true → lookup_entry test (set_value (eq k) pairs v)
        ≡ (if test k then Some (option_map_or (λ e. e.0) (pair eq pairs k) k, v) else lookup_entry test pairs)
    entry_set [] stored = absurd (false≢true stored)
    entry_set (e ∷ es) stored = grind (arith, entry_set es, p.alike_keys k e.0, p.equal_keys k e.0)

    pub entry_push : (pairs : List (K × V)) → has eq pairs k ≡ false → lookup_entry test (pairs ++ (k, v) ∷ [])
        ≡ (if test k then Some (option_map_or (λ e. e.0) (pair eq pairs k) k, v) else lookup_entry test pairs)
    entry_push [] missing = refl
    entry_push (e ∷ es) missing = grind (arith, entry_push es, p.equal_keys k e.0)

    -- a put that replaces the key
    pub entry_set_key : (pairs : List (K × V)) → has eq pairs k ≡ true → lookup_entry test (set_key (eq k) (set_value (eq k) pairs v) k)
        ≡ (if test k then Some (k, v) else lookup_entry test pairs)
    entry_set_key [] stored = absurd (false≢true stored)
    entry_set_key (e ∷ es) stored = grind (arith, entry_set_key es, p.alike_keys k e.0, p.equal_keys k e.0)

  -- where all keys are apart from one that passes, none passes
  pub none_apart : (x : K) (es : List (K × V)) → test x ≡ true
      → AllByRecursion (λ y. eq x y ≡ false) (keys_of es) → lookup_entry test es ≡ None
  none_apart x [] passes apart = refl
  none_apart x (e ∷ es) passes apart = let a = apart.0 in
      grind (arith, none_apart x es passes apart.1, p.equal_keys x e.0)

  -- the keys that a removal leaves stand in the order that they had
  pub keys_removed : (pairs : List (K × V)) → IsUnique eq pairs
      → keys_of (remove_entry test pairs) ≡ filter (λ q. not (test q)) (keys_of pairs)
  unfolding IsDistinct
  keys_removed [] unique = refl
  keys_removed (e ∷ es) unique = grind (arith, keys_removed es unique.1, others eq test p e.0)

  -- and none of them passes
  pub lookup-removed : (pairs : List (K × V)) → IsUnique eq pairs → lookup test (remove_entry test pairs) ≡ None
  unfolding IsDistinct
  lookup-removed [] unique = refl
  lookup-removed (e ∷ es) unique = let apart = unique.0 in
      grind (arith, lookup-removed es unique.1, none_apart e.0 es, lookup-entry test es)

pub lookup-append : {K V : Type 0} (test : K → Bool) (first second : List (K × V))
    → lookup test (first ++ second) ≡ option_or (lookup test first) (lookup test second)
lookup-append test [] second = refl
lookup-append test (e ∷ es) second = grind (arith, lookup-append test es second)

-- of pairs with distinct keys the last that passes is the first
pub lookup-reverse : {K V : Type 0} (eq : K → K → Bool) (test : K → Bool) → IsProbe eq test
    → (pairs : List (K × V)) → IsUnique eq pairs → lookup test (reverse pairs) ≡ lookup test pairs
unfolding IsDistinct
lookup-reverse eq test p [] unique = refl
lookup-reverse eq test p (e ∷ es) unique =
    let apart = unique.0 in
    grind (
      arith,
      lookup-reverse eq test p es unique.1,
      reverse-append (e ∷ []) es,
      lookup-append test (reverse es) (e ∷ []),
      none_apart eq test p e.0 es,
      lookup-entry test es,
    )

-- the key of a pair that a put adds
pub entry_new : {K V : Type 0} (eq : K → K → Bool) (k : K) (pairs : List (K × V))
    → has eq pairs k ≡ false → option_map_or (λ e. e.0) (pair eq pairs k) k ≡ k
entry_new eq k [] missing = refl
entry_new eq k (e ∷ es) missing = grind (arith, entry_new eq k es)

pub length-remove_entry : {K V : Type 0} (test : K → Bool) (pairs : List (K × V))
    → length (remove_entry test pairs) + (if is_some (lookup test pairs) then 1 else 0) ≡ length pairs
length-remove_entry test [] = refl
length-remove_entry test (e ∷ es) = grind (arith, length-remove_entry test es)

pub length-set_key : {K V : Type 0} (test : K → Bool) (pairs : List (K × V)) (k : K) → length (set_key test pairs k) ≡ length pairs
length-set_key test [] k = refl
length-set_key test (e ∷ es) k = grind (arith, length-set_key test es k)

set_twice : {K V : Type 0} (test : K → Bool) (pairs : List (K × V)) (v w : V)
    → set_value test (set_value test pairs v) w ≡ set_value test pairs w
set_twice test [] v w = refl
set_twice test (e ∷ es) v w = grind (arith, set_twice test es v w)

set_last : {K V : Type 0} (test : K → Bool) (pairs : List (K × V)) (k : K) (v w : V) → test k ≡ true → is_some (lookup test pairs) ≡ false
    → set_value test (pairs ++ (k, v) ∷ []) w ≡ pairs ++ (k, w) ∷ []
set_last test [] k v w passes missing = grind (arith, passes)
set_last test (e ∷ es) k v w passes missing = grind (arith, set_last test es k v w passes)

-- a test finds nothing, or it finds a key at an index
pub by_test : {K V : Type 0} (test : K → Bool) (pairs : List (K × V)) (P : Type 0)
    → (NotFound test pairs → P) → ((i : ℕ) → FoundAt test pairs i → P) → P
by_test test pairs P missing stored = by (first_index test pairs) refl
  where
    by : (o : Option ℕ) → first_index test pairs ≡ o → P
    by None none = missing (not_found test pairs none)
    by (Some i) found = stored i (found_at test pairs i found)

-- where a test finds no value
pub no_value : {K V : Type 0} (test : K → Bool) (pairs : List (K × V)) → lookup test pairs ≡ None → NotFound test pairs
no_value test pairs none = by_test test pairs (NotFound test pairs) (λ n. n) (λ i f. absurd (cc (f.value, none)))

pub lookup-set : {K V : Type 0} (test : K → Bool) (pairs : List (K × V)) (v : V)
    → lookup test (set_value test pairs v) ≡ (if is_some (lookup test pairs) then Some v else None)
lookup-set test [] v = refl
lookup-set test (e ∷ es) v = grind (arith, lookup-set test es v)

-- a value written where one was put
pub set_put : {K V : Type 0} (eq : K → K → Bool) (k : K) (v w : V) → eq k k ≡ true
    → (pairs : List (K × V)) → set_value (eq k) (put eq pairs k v) w ≡ put eq pairs k w
unfolding put
set_put eq k v w same pairs = grind (arith, set_twice (eq k) pairs v w, set_last (eq k) pairs k v w same)

-- the pair at an index, once v is its value
module _ {K V : Type 0} (pairs : List (K × V)) (i : ℕ) (p : K × V) (here : slice_get pairs i ≡ Some p) (v : V) where
  pub read_written : slice_get (with_value_at pairs i v) i ≡ Some (p.0, v)
  read_written = rw here (slice_get-set_same pairs i (p.0, v) (slice_get_within pairs i p here))

  pub written_again : (w : V) → with_value_at (with_value_at pairs i v) i w ≡ with_value_at pairs i w
  written_again w = rw (read_written, here) (set-set pairs i (p.0, v) (p.0, w))

  pub written_taken : without_at (with_value_at pairs i v) i ≡ without_at pairs i
  unfolding without_at
  written_taken = rw here (remove-set pairs i (p.0, v))

-- the pair that was pushed, once w is its value
pub pushed_written : {K V : Type 0} (pairs : List (K × V)) (k : K) (v w : V)
    → with_value_at (pairs ++ (k, v) ∷ []) (length pairs) w ≡ pairs ++ (k, w) ∷ []
pushed_written pairs k v w = rw (slice_get_seam pairs (k, v) []) (set-append_seam pairs (k, v) [] (k, w))
