-- For callers: what each change of a map does to each way of reading it. The readers are look-ups by a test (`lookup` of
-- the value, `pair` of the pair), look-ups by a key (`at`, `has`, `fits`), the number of pairs (`length`), and that keys
-- are distinct (`unique`). `ProbedLaws` has the changes by probe. The ruleset `caller` of `Rules` has those that a
-- search needs.
use Rattle.std.proofs.Common.{◌≡◌, ℕ, ◌+◌, ◌||◌, [], ◌∷◌, ◌++◌, ◌∙◌, ◌≤◌, ap, arith, false, filter, if◌then◌else◌, inl, inr, is_some}
use Rattle.std.proofs.Common.{length, not, refl, reverse, subst, sym, true, Bool, List, None, Some}
use Rattle.std.specs.{List.fold, List.IsDistinct, Set.distinct_count}
use Rattle.std.specs.Map.{keys_of, lookup, lookup_entry, remove_entry, set_value}
use Rattle.std.specs.Option.{option_map, option_map_or, option_or, unwrap_or}
use Rattle.std.proofs.lemmas.{Bool.cases_Bool, Bool.Decides.nat_tests, List.length-append, List.reverse-append}
use Rattle.std.proofs.lemmas.{Map.length-set_value, Map.lookup-none, Map.Made.is_some-lookup, Map.Made.IsDistinct-keys_filter}
use Rattle.std.proofs.lemmas.Map.Entries.{length-keys_of, none_past_head, option_filter}
use Rattle.std.proofs.lemmas.Map.Steps.{set_value_same}
use Rattle.micromap_core.specs.{Build.build, Build.put_all, Build.put_pair, Equalities.Lawful, Equalities.Probes}
use Rattle.micromap_core.specs.Pairs.{at, fits, has, pair, put, put_key, take_out, IsUnique}
use Rattle.micromap_core.proofs.Laws.SublistLaws.{IsDistinct-filter}
use Rattle.micromap_core.proofs.Laws.DistinctLemmas.{IsDistinct-nil}
use Rattle.micromap_core.proofs.Laws.KeyedLemmas.{distinct-built, length-built, pairs_keyed}
use Rattle.micromap_core.proofs.Laws.Equalities.{equalities, of_lawful, of_probes, probes_key, same_test, Trigger}
use Rattle.micromap_core.proofs.Laws.ProbedLaws.{keys_remove_entry, lookup_remove_bytes, lookup_remove_entry, lookup_remove_str}
use Rattle.micromap_core.proofs.Laws.ProbedLaws.{lookup_remove_text, remove_entry_missing, remove_entry_push, set_value_missing}
use Rattle.micromap_core.proofs.Laws.ProbedLaws.{unique_remove_entry, unique_set_value}
use Rattle.micromap_core.proofs.Laws.MapLemmas.{by_test, entry_new, entry_push, entry_set, entry_set_key, keys_of-put_new}
use Rattle.micromap_core.proofs.Laws.MapLemmas.{keys_of-put_stored, keys_removed, length-remove_entry, length-set_key, lookup-append}
use Rattle.micromap_core.proofs.Laws.MapLemmas.{lookup-entry, lookup-reverse, lookup-set, no_value, none_apart, push-put, push-put_key}
use Rattle.micromap_core.proofs.Laws.MapLemmas.{set_put, slice_set-put_key, IsUnique-push, IsUnique-set, IsUnique-set_key}

-- by a test: the pair that is found, and its value
module _ {K V : Type 0} (eq : K → K → Bool) (test : K → Bool) where
  pub pair_put : (pairs : List (K × V)) (k : K) (v : V) → Probes eq test → lookup_entry test (put eq pairs k v)
      ≡ (if test k then Some (option_map_or (λ e. e.0) (pair eq pairs k) k, v) else lookup_entry test pairs)
  unfolding put
  pair_put pairs k v probes = let p = of_probes eq test probes in
      grind (arith, entry_set eq test p k v pairs, entry_push eq test p k v pairs)

  pub lookup_put : (pairs : List (K × V)) (k : K) (v : V) → Probes eq test
      → lookup test (put eq pairs k v) ≡ (if test k then Some v else lookup test pairs)
  lookup_put pairs k v probes = grind (arith, lookup-entry test (put eq pairs k v), pair_put pairs k v probes, lookup-entry test pairs)

  pub pair_put_key : (pairs : List (K × V)) (k : K) (v : V) → Probes eq test → lookup_entry test (put_key eq pairs k v)
      ≡ (if test k then Some (k, v) else lookup_entry test pairs)
  unfolding put_key
  pair_put_key pairs k v probes = let p = of_probes eq test probes in
      grind (arith, entry_set_key eq test p k v pairs, entry_push eq test p k v pairs, entry_new eq k pairs)

  pub lookup_put_key : (pairs : List (K × V)) (k : K) (v : V) → Probes eq test
      → lookup test (put_key eq pairs k v) ≡ (if test k then Some v else lookup test pairs)
  lookup_put_key pairs k v probes =
      grind (arith, lookup-entry test (put_key eq pairs k v), pair_put_key pairs k v probes, lookup-entry test pairs)

  pub pair_take_out : (pairs : List (K × V)) (k : K) → Probes eq test → IsUnique eq pairs
      → lookup_entry test (take_out eq pairs k) ≡ (if test k then None else lookup_entry test pairs)
  unfolding take_out IsDistinct
  pair_take_out [] k probes unique = grind arith
  pair_take_out (e ∷ es) k probes unique =
      let p = of_probes eq test probes in
      let apart = unique.0 in
      grind (arith, pair_take_out es k probes unique.1, none_apart eq test p e.0 es, p.alike_keys k e.0, p.equal_keys k e.0)

  pub lookup_take_out : (pairs : List (K × V)) (k : K) → Probes eq test → IsUnique eq pairs
      → lookup test (take_out eq pairs k) ≡ (if test k then None else lookup test pairs)
  lookup_take_out pairs k probes unique =
      grind (arith, lookup-entry test (take_out eq pairs k), pair_take_out pairs k probes unique, lookup-entry test pairs)

  pub pair_filter : (keep : K × V → Bool) (pairs : List (K × V)) → Probes eq test
      → IsUnique eq pairs → lookup_entry test (filter keep pairs) ≡ option_filter keep (lookup_entry test pairs)
  unfolding IsDistinct
  pair_filter keep [] probes unique = refl
  pair_filter keep (e ∷ es) probes unique = let apart = unique.0 in
      grind (arith, pair_filter keep es probes unique.1, none_apart eq test (of_probes eq test probes) e.0 es)

  pub lookup_filter : (keep : K × V → Bool) (pairs : List (K × V)) → Probes eq test
      → IsUnique eq pairs → lookup test (filter keep pairs) ≡ option_map (λ e. e.1) (option_filter keep (lookup_entry test pairs))
  lookup_filter keep pairs probes unique = lookup-entry test (filter keep pairs)
      ∙ ap (option_map (λ e. e.1)) (pair_filter keep pairs probes unique)

  -- of items that are put one after the other the last stands
  pub lookup_put_all : (pairs items : List (K × V)) → Probes eq test
      → lookup test (put_all eq pairs items) ≡ option_or (lookup test (reverse items)) (lookup test pairs)
  lookup_put_all pairs [] probes = refl
  lookup_put_all pairs (e ∷ items) probes = grind (
    arith,
    lookup_put_all (put eq pairs e.0 e.1) items probes,
    lookup_put pairs e.0 e.1 probes,
    reverse-append (e ∷ []) items,
    lookup-append test (reverse items) (e ∷ []),
  )

  pub lookup_build : (items : List (K × V)) → Probes eq test → lookup test (build eq items) ≡ lookup test (reverse items)
  lookup_build items probes = grind (arith, lookup_put_all [] items probes)

  -- which is the only one where the items have distinct keys
  pub lookup_put_all_unique : (pairs items : List (K × V)) → Probes eq test → IsUnique eq items
      → lookup test (put_all eq pairs items) ≡ option_or (lookup test items) (lookup test pairs)
  lookup_put_all_unique pairs items probes unequal = lookup_put_all pairs items probes ∙ ap (λ o. option_or o (lookup test pairs))
      (lookup-reverse eq test (of_probes eq test probes) items unequal)

  -- the key that was put first stays, and the value that was put last
  entry_built : (items old : List (K × V)) → Probes eq test → lookup_entry test (fold (put_pair eq) old items)
      ≡ option_map (λ e. (e.0, unwrap_or (lookup test (reverse items)) e.1)) (option_or (lookup_entry test old) (lookup_entry test items))
  entry_built [] old probes = grind (arith)
  entry_built (e ∷ items) old probes =
      let p = of_probes eq test probes in
      let same : test e.0 ≡ true → pair eq old e.0 ≡ lookup_entry test old = λ is. ap (λ t. lookup_entry t old)
      (sym (same_test eq test p.alike_keys p.equal_keys e.0 is)) in
      grind (
        arith,
        entry_built items (put eq old e.0 e.1) probes,
        pair_put old e.0 e.1 probes,
        same,
        reverse-append (e ∷ []) items,
        lookup-append test (reverse items) (e ∷ []),
      )

  pub pair_build : (items : List (K × V)) → Probes eq test → lookup_entry test (build eq items)
      ≡ option_map (λ e. (e.0, unwrap_or (lookup test (reverse items)) e.1)) (lookup_entry test items)
  pair_build items probes = entry_built items [] probes

-- the list after a put: a stored key keeps its index, and a new one goes last
module _ {K V : Type 0} (eq : K → K → Bool) (pairs : List (K × V)) (k : K) (v : V) where
  pub put_stored : has eq pairs k ≡ true → put eq pairs k v ≡ set_value (eq k) pairs v
  unfolding put
  put_stored stored = rw stored refl

  pub put_new : has eq pairs k ≡ false → put eq pairs k v ≡ pairs ++ (k, v) ∷ []
  unfolding put
  put_new missing = rw missing refl

  pub keys_put : keys_of (put eq pairs k v) ≡ (if has eq pairs k then keys_of pairs else keys_of pairs ++ k ∷ [])
  keys_put = grind (arith, keys_of-put_stored eq pairs k v, keys_of-put_new eq pairs k v)

-- no pair at all: the other ways to read them are computed
pub unique_empty : {K : Type 0} (V : Type 0) (eq : K → K → Bool) → IsUnique {V = V} eq []
unique_empty V eq = IsDistinct-nil eq

-- at a key of one's own
module _ {K V : Type 0} (eq : K → K → Bool) where
  -- equal keys find the same
  pub at_alike : (q k : K) (pairs : List (K × V)) → Lawful eq → eq q k ≡ true → at eq pairs q ≡ at eq pairs k
  at_alike q k pairs laws same = ap (λ test. lookup test pairs) (λ i x. (of_lawful eq laws).congr q k x same i)

  pub at_put : (pairs : List (K × V)) (k : K) (v : V) (q : K) → Lawful eq
      → at eq (put eq pairs k v) q ≡ (if eq k q then Some v else at eq pairs q)
  at_put pairs k v q laws = lookup_put eq (eq q) pairs k v (probes_key eq q laws)
      ∙ ap (λ b. if b then Some v else at eq pairs q) ((of_lawful eq laws).symm q k)

  pub at_put_same : (pairs : List (K × V)) (k : K) (v : V) → Lawful eq → at eq (put eq pairs k v) k ≡ Some v
  at_put_same pairs k v laws = at_put pairs k v k laws ∙ ap (λ b. if b then Some v else at eq pairs k) ((of_lawful eq laws).refl k)

  pub at_put_key : (pairs : List (K × V)) (k : K) (v : V) (q : K) → Lawful eq
      → at eq (put_key eq pairs k v) q ≡ (if eq k q then Some v else at eq pairs q)
  at_put_key pairs k v q laws = lookup_put_key eq (eq q) pairs k v (probes_key eq q laws)
      ∙ ap (λ b. if b then Some v else at eq pairs q) ((of_lawful eq laws).symm q k)

  pub at_put_key_same : (pairs : List (K × V)) (k : K) (v : V) → Lawful eq → at eq (put_key eq pairs k v) k ≡ Some v
  at_put_key_same pairs k v laws = at_put_key pairs k v k laws ∙ ap (λ b. if b then Some v else at eq pairs k) ((of_lawful eq laws).refl k)

  pub at_take_out : (pairs : List (K × V)) (k q : K) → Lawful eq → IsUnique eq pairs
      → at eq (take_out eq pairs k) q ≡ (if eq k q then None else at eq pairs q)
  at_take_out pairs k q laws unique = lookup_take_out eq (eq q) pairs k (probes_key eq q laws) unique
      ∙ ap (λ b. if b then None else at eq pairs q) ((of_lawful eq laws).symm q k)

  pub at_take_out_same : (pairs : List (K × V)) (k : K) → Lawful eq → IsUnique eq pairs → at eq (take_out eq pairs k) k ≡ None
  at_take_out_same pairs k laws unique = at_take_out pairs k k laws unique
      ∙ ap (λ b. if b then None else at eq pairs k) ((of_lawful eq laws).refl k)

  pub has_put : (pairs : List (K × V)) (k : K) (v : V) (q : K) → Lawful eq → has eq (put eq pairs k v) q ≡ (eq k q || has eq pairs q)
  has_put pairs k v q laws = grind (arith, at_put pairs k v q laws)

  pub at_put_all : (pairs items : List (K × V)) (q : K) → Lawful eq
      → at eq (put_all eq pairs items) q ≡ option_or (at eq (reverse items) q) (at eq pairs q)
  at_put_all pairs items q laws = lookup_put_all eq (eq q) pairs items (probes_key eq q laws)

  pub at_put_all_unique : (pairs items : List (K × V)) (q : K) → Lawful eq → IsUnique eq items
      → at eq (put_all eq pairs items) q ≡ option_or (at eq items q) (at eq pairs q)
  at_put_all_unique pairs items q laws unequal = lookup_put_all_unique eq (eq q) pairs items (probes_key eq q laws) unequal

  pub has_put_all : (pairs items : List (K × V)) (q : K) → Lawful eq
      → has eq (put_all eq pairs items) q ≡ (has eq items q || has eq pairs q)
  has_put_all pairs [] q laws = refl
  has_put_all pairs (e ∷ items) q laws =
      grind (arith, has_put_all (put eq pairs e.0 e.1) items q laws, has_put pairs e.0 e.1 q laws, (of_lawful eq laws).symm q e.0)

  -- how many pairs there are
  pub length_put : (pairs : List (K × V)) (k : K) (v : V)
      → length (put eq pairs k v) ≡ (if has eq pairs k then length pairs else length pairs + 1)
  unfolding put
  length_put pairs k v = grind (arith, length-set_value (eq k) pairs v, length-append pairs ((k, v) ∷ []))

  pub length_put_key : (pairs : List (K × V)) (k : K) (v : V)
      → length (put_key eq pairs k v) ≡ (if has eq pairs k then length pairs else length pairs + 1)
  unfolding put_key
  length_put_key pairs k v =
      grind (arith, length-set_key (eq k) (set_value (eq k) pairs v) k, length-set_value (eq k) pairs v, length-append pairs ((k, v) ∷ []))

  pub length_take_out : (pairs : List (K × V)) (k : K) → length (take_out eq pairs k) + (if has eq pairs k then 1 else 0) ≡ length pairs
  unfolding take_out
  length_take_out pairs k = length-remove_entry (eq k) pairs

  pub length_build : (items : List (K × V)) → Lawful eq → length (build eq items) ≡ distinct_count eq (keys_of items)
  length_build items laws = sym (length-keys_of (build eq items)) ∙ length-built (of_lawful eq laws) (pairs_keyed eq 0) items

  -- the keys that a removal leaves stand in the order that they had
  pub keys_take_out : (pairs : List (K × V)) (k : K) → Lawful eq → IsUnique eq pairs
      → keys_of (take_out eq pairs k) ≡ filter (λ q. not (eq k q)) (keys_of pairs)
  unfolding take_out
  keys_take_out pairs k laws unique = keys_removed eq (eq k) (of_probes eq (eq k) (probes_key eq k laws)) pairs unique

  -- that the keys are distinct
  pub unique_put : (pairs : List (K × V)) (k : K) (v : V) → Lawful eq → IsUnique eq pairs → IsUnique eq (put eq pairs k v)
  unique_put pairs k v laws unique = by_test (eq k) pairs (IsUnique eq (put eq pairs k v))
      (λ n. subst (IsUnique eq) (push-put eq k pairs n v) (IsUnique-push eq (of_lawful eq laws) pairs unique k v n))
      (λ i f. subst (IsUnique eq) (sym (put_stored eq pairs k v (ap is_some f.value) ∙ f.written v))
      (IsUnique-set eq (of_lawful eq laws) pairs unique i f.pair v f.here))

  pub unique_put_key : (pairs : List (K × V)) (k : K) (v : V) → Lawful eq → IsUnique eq pairs → IsUnique eq (put_key eq pairs k v)
  unique_put_key pairs k v laws unique = by_test (eq k) pairs (IsUnique eq (put_key eq pairs k v))
      (λ n. subst (IsUnique eq) (push-put_key eq k pairs n v) (IsUnique-push eq (of_lawful eq laws) pairs unique k v n))
      (λ i f. subst (IsUnique eq) (slice_set-put_key eq k pairs i f v)
      (IsUnique-set_key eq (of_lawful eq laws) pairs unique i f.pair k v f.here f.passes))

  pub unique_take_out : (pairs : List (K × V)) (k : K) → Lawful eq → IsUnique eq pairs → IsUnique eq (take_out eq pairs k)
  unique_take_out pairs k laws unique = subst (IsDistinct eq) (sym (keys_take_out pairs k laws unique))
      (IsDistinct-filter eq (λ q. not (eq k q)) (keys_of pairs) unique)

  pub unique_build : (items : List (K × V)) → Lawful eq → IsUnique eq (build eq items)
  unique_build items laws = distinct-built (of_lawful eq laws) (pairs_keyed eq 0) items

  -- the key of the pair that is found equals the one that was looked for, and is the same key if the equality is exact
  pub pair_key : (pairs : List (K × V)) (k : K) (p : K × V) → pair eq pairs k ≡ Some p → eq k p.0 ≡ true
  pair_key [] k p found = cc
  pair_key (e ∷ pairs) k p found = elim (cases_Bool (eq k e.0)) [
    | inl here ↦ (let same : Some e ≡ Some p = sym (ap (λ b. if b then Some e else pair eq pairs k) here) ∙ found in let is : e ≡ p =
        cc in subst (λ q. eq k q.0 ≡ true) is here)
    | inr not_here ↦ pair_key pairs k p (sym (ap (λ b. if b then Some e else pair eq pairs k) not_here) ∙ found)
  ]

  pub stored_key : ((x y : K) → eq x y ≡ true → x ≡ y) → (pairs : List (K × V)) (k : K) (p : K × V) → pair eq pairs k ≡ Some p → p.0 ≡ k
  stored_key exact pairs k p found = sym (exact k p.0 (pair_key pairs k p found))

  -- the value that a key finds is that of the pair that it finds
  pub at_pair : (pairs : List (K × V)) (k : K) → at eq pairs k ≡ option_map (λ p. p.1) (pair eq pairs k)
  at_pair pairs k = lookup-entry (eq k) pairs

  -- equal keys take out the same
  pub take_out_alike : (pairs : List (K × V)) (q k : K) → Lawful eq → eq q k ≡ true → take_out eq pairs q ≡ take_out eq pairs k
  unfolding take_out
  take_out_alike pairs q k laws same = ap (λ test. remove_entry test pairs) (λ i x. (of_lawful eq laws).congr q k x same i)

  -- a stored pair that is taken out and put again goes last
  pub put_taken_out : (pairs : List (K × V)) (k : K) (p : K × V) → Lawful eq → IsUnique eq pairs
      → pair eq pairs k ≡ Some p → put eq (take_out eq pairs k) p.0 p.1 ≡ take_out eq pairs k ++ p ∷ []
  put_taken_out pairs k p laws unique found = put_new eq (take_out eq pairs k) p.0 p.1
      (ap is_some (sym (at_alike k p.0 (take_out eq pairs k) laws (pair_key pairs k p found)) ∙ at_take_out_same pairs k laws unique))

  -- what changes nothing: a put of the value that is stored, and a removal of a key that isn't
  pub put_back : (pairs : List (K × V)) (k : K) (v : V) → at eq pairs k ≡ Some v → put eq pairs k v ≡ pairs
  unfolding put
  put_back pairs k v found = ap (λ o. if is_some o then set_value (eq k) pairs v else pairs ++ (k, v) ∷ []) found
      ∙ set_value_same (eq k) pairs v found

  pub take_out_missing : (pairs : List (K × V)) (k : K) → at eq pairs k ≡ None → take_out eq pairs k ≡ pairs
  unfolding take_out
  take_out_missing pairs k none = (no_value (eq k) pairs none).taken

  -- what is put at a new key and removed again leaves the list as it was
  pub take_out_put : (pairs : List (K × V)) (k : K) (v : V) → Lawful eq → at eq pairs k ≡ None → take_out eq (put eq pairs k v) k ≡ pairs
  unfolding take_out
  take_out_put pairs k v laws none = ap (remove_entry (eq k)) (put_new eq pairs k v (ap is_some none))
      ∙ remove_entry_push (eq k) pairs (k, v) none ((of_lawful eq laws).refl k)

  -- a removal by a probe that matches the keys equal to a key
  pub take_out_entry : (pairs : List (K × V)) (k : K) → Trigger (take_out eq pairs k) (take_out eq pairs k ≡ remove_entry (eq k) pairs)
  unfolding take_out
  take_out_entry pairs k = (refl, refl)

  -- a key that doesn't fit is missing, and there is no room
  pub not_fits : (N : ℕ) (pairs : List (K × V)) (k : K) → fits eq N pairs k ≡ false → (has eq pairs k ≡ false) × (N ≤ length pairs)
  not_fits N pairs k refused = (grind (arith, refused), grind (arith, nat_tests, refused))

  -- of two puts at a key the second stands
  pub put_again : (pairs : List (K × V)) (k : K) (v w : V) → Lawful eq → put eq (put eq pairs k v) k w ≡ put eq pairs k w
  put_again pairs k v w laws = put_stored eq (put eq pairs k v) k w (ap is_some (at_put_same pairs k v laws))
      ∙ set_put eq k v w ((of_lawful eq laws).refl k) pairs

-- the first pair: its key finds it, no key behind it is equal, and a removal at it leaves what is behind
module _ {K V : Type 0} (eq : K → K → Bool) where
  pub at_first : (p : K × V) (behind : List (K × V)) → Lawful eq → at eq (p ∷ behind) p.0 ≡ Some p.1
  at_first p behind laws = ap (λ b. if b then Some p.1 else at eq behind p.0) ((of_lawful eq laws).refl p.0)

  pub has_behind : (p : K × V) (behind : List (K × V)) → Lawful eq → IsUnique eq (p ∷ behind) → has eq behind p.0 ≡ false
  has_behind p behind laws unique =
      let e = of_lawful eq laws in
      ap is_some (lookup-none (eq p.0) behind (none_past_head e p.0 p behind unique (e.refl p.0)))

  pub take_out_first : (p : K × V) (behind : List (K × V)) → Lawful eq → take_out eq (p ∷ behind) p.0 ≡ behind
  unfolding take_out
  take_out_first p behind laws = ap (λ b. if b then behind else p ∷ remove_entry (eq p.0) behind) ((of_lawful eq laws).refl p.0)

-- what each key finds, by the word alone: for a search that doesn't see the equality in what it computes to, nor that a
-- key of one's own equals itself
module _ {K V : Type 0} (eq : K → K → Bool) (pairs : List (K × V)) (k : K) where
  pub each_put : (v : V) → Lawful eq → Trigger (put eq pairs k v) ((at eq (put eq pairs k v) k ≡ Some v)
      × ((q : K) → at eq (put eq pairs k v) q ≡ (if eq k q then Some v else at eq pairs q)))
  each_put v laws = (refl, (at_put_same eq pairs k v laws, λ q. at_put eq pairs k v q laws))

  pub each_take_out : Lawful eq → IsUnique eq pairs → Trigger (take_out eq pairs k) ((at eq (take_out eq pairs k) k ≡ None)
      × ((q : K) → at eq (take_out eq pairs k) q ≡ (if eq k q then None else at eq pairs q)))
  each_take_out laws unique = (refl, (at_take_out_same eq pairs k laws unique, λ q. at_take_out eq pairs k q laws unique))

pub ruleset map_laws = (
  pair_key,
  keys_put,
  put_new,
  put_stored,
  not_fits,
  at_first,
  has_behind,
  take_out_first,
  lookup_put_all,
  lookup_put_all_unique,
  is_some-lookup,
  pair_put,
  lookup_put,
  pair_put_key,
  lookup_put_key,
  pair_take_out,
  lookup_take_out,
  pair_build,
  lookup_build,
  pair_filter,
  lookup_filter,
  length_put,
  length_put_key,
  length_take_out,
  keys_take_out,
  length_build,
  unique_put,
  unique_put_key,
  unique_take_out,
  unique_build,
  IsDistinct-keys_filter,
  put_back,
  put_again,
  take_out_missing,
  take_out_put,
  set_value_same,
  set_value_missing,
  remove_entry_missing,
  take_out_entry,
  length-set_value,
  length-remove_entry,
  lookup-set,
  keys_remove_entry,
  lookup_remove_entry,
  lookup_remove_text,
  lookup_remove_str,
  lookup_remove_bytes,
  unique_set_value,
  unique_remove_entry,
  each_put,
  each_take_out,
  equalities,
)
