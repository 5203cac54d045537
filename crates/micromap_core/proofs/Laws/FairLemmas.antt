-- For proofs: two lists with distinct keys that are the same get answers that agree from every fair list of calls, and
-- are the same afterwards. Two lists that differ are told apart by one look-up. The proofs use only what the calls do to
-- look-ups.
use Rattle.std.proofs.Common.{◌≡◌, ◌≢◌, ℕ, [], ◌∷◌, ◌∙◌, ◌↔◌, arith, eq-eqb, false, if◌then◌else◌, length, nat_eq, ne_eqb, refl, subst, sym}
use Rattle.std.proofs.Common.{true, Bool, IsFalse, IsTrue, List, None, Option, Some}
use Rattle.std.specs.{Cmp.bool_eq_equiv, Cmp.first_so, Cmp.IsEquivalence, Cmp.Derive.both_true}
use Rattle.std.specs.{Cmp.Lexicographic.options_equiv, List.list_all, Option.option_eq, Option.option_map_or}
use Rattle.std.specs.Bool.{OnTrue}
use Rattle.std.proofs.lemmas.Bool.{false_from_ne_true, false≢true, OnTrue_from}
use Rattle.micromap_core.specs.Calls.{after, agree, answer, clear, contains, get, get_key_value, insert, insert_key_value, is_empty, len}
use Rattle.micromap_core.specs.Calls.{remove, remove_entry, run, Call}
use Rattle.micromap_core.specs.Equalities.{Lawful}
use Rattle.micromap_core.specs.Fair.{AnswersAgree, IsFair, IsFairCall, SameForGood, ToldApart}
use Rattle.micromap_core.specs.Pairs.{at, fits, has, has_room, pair, put, put_key, take_out, IsContent, IsUnique}
use Rattle.micromap_core.specs.Same.{has_value, is_same, pair_eq, Same}
use Rattle.micromap_core.proofs.{Laws.DistinctLemmas.IsDistinct-nil, Laws.Equalities.lawful, Laws.Equalities.of_lawful}
use Rattle.micromap_core.proofs.Laws.MapLemmas.{lookup-entry}
use Rattle.micromap_core.proofs.Laws.MapLaws.{at_put, at_put_key, at_take_out, unique_put, unique_put_key, unique_take_out}
use Rattle.micromap_core.proofs.Laws.SameLemmas.{alike_from_same, comparable, differs_where_unlike, long_from_same, same_from_alike}
use Rattle.micromap_core.proofs.Laws.SameLemmas.{same_if_long, unlike_if_apart, Comparable, FindAlike}

-- calls on two lists that are the same
module _ {K V : Type 0} {eq : K → K → Bool} {same : V → V → Bool} {first second : List (K × V)}
    (c : Comparable eq same first second) (are : Same eq same first second) where
  -- two lists can be compared by the same equalities, and are the same
  abbrev AreSame : List (K × V) → List (K × V) → Type 0
  AreSame one other = Comparable eq same one other × Same eq same one other

  laws : Lawful eq
  laws = lawful eq c.keys

  alike : FindAlike eq same first second
  alike = alike_from_same c are

  -- the pair that a key finds has an equal key
  key_passes : (pairs : List (K × V)) (k : K) → option_map_or (λ p. eq k p.0) (pair eq pairs k) true ≡ true
  key_passes [] k = refl
  key_passes (e ∷ es) k = grind (arith, key_passes es k)

  if_same : {b d : Bool} → b ≡ d → {one other : List (K × V)} → AreSame one other
      → AreSame (if b then one else first) (if d then other else second)
  if_same {b = true} is chosen = rw (← is) chosen
  if_same {b = false} is chosen = rw (← is) (c, are)

  stored_alike : (k : K) → has eq first k ≡ has eq second k
  stored_alike k = grind (arith, alike k)

  pair_alike : (k : K) → option_eq (pair_eq eq same) (pair eq first k) (pair eq second k) ≡ true
  pair_alike k =
      grind (arith, lookup-entry (eq k) first, lookup-entry (eq k) second, key_passes first k, key_passes second k, alike k, c.keys.congr k)

  -- the two stay so where both find the same at a key, and at others what they found
  changed : (f : List (K × V) → List (K × V)) (k : K) (o : Option V) → ((l : List (K × V)) → IsUnique eq l → IsUnique eq (f l))
      → ((l : List (K × V)) → IsUnique eq l → (q : K) → at eq (f l) q ≡ (if eq k q then o else at eq l q)) → AreSame (f first) (f second)
  changed f k o unique found =
      let new : Comparable eq same (f first) (f second) =
      comparable c.keys c.values (unique first c.unique_first) (unique second c.unique_second) in (
        new,
        same_from_alike new (λ q. grind (
          arith,
          found first c.unique_first q,
          found second c.unique_second q,
          (options_equiv c.values).refl o,
          alike q,
        )),
      )

  pub put_same : (k : K) (v : V) → AreSame (put eq first k v) (put eq second k v)
  put_same k v = changed (λ l. put eq l k v) k (Some v) (λ l. unique_put eq l k v laws) (λ l unique q. at_put eq l k v q laws)

  pub put_key_same : (k : K) (v : V) → AreSame (put_key eq first k v) (put_key eq second k v)
  put_key_same k v = changed (λ l. put_key eq l k v) k (Some v) (λ l. unique_put_key eq l k v laws)
      (λ l unique q. at_put_key eq l k v q laws)

  pub take_out_same : (k : K) → AreSame (take_out eq first k) (take_out eq second k)
  take_out_same k = changed (λ l. take_out eq l k) k None (λ l. unique_take_out eq l k laws)
      (λ l unique q. at_take_out eq l k q laws unique)

  module _ (N M : ℕ) where
    -- a key fits both or neither, where the insertion is fair
    fits_alike : (k : K) → (IsFalse (has eq first k) → IsFalse (has eq second k)
        → has_room N first ≡ has_room M second) → fits eq N first k ≡ fits eq M second k
    fits_alike k fair = grind (arith, fair, stored_alike k)

    -- the answers of one fair call agree
    answer_agrees : (call : Call K V) → IsFairCall eq N M first second call
        → agree eq same (answer eq N first call) (answer eq M second call) ≡ true
    answer_agrees (insert k v) fair = grind (arith, fits_alike k fair, alike k)
    answer_agrees (insert_key_value k v) fair = grind (arith, fits_alike k fair, pair_alike k)
    answer_agrees (get k) fair = alike k
    answer_agrees (get_key_value k) fair = pair_alike k
    answer_agrees (contains k) fair = rw (stored_alike k) (bool_eq_equiv.refl (has eq second k))
    answer_agrees (remove k) fair = alike k
    answer_agrees (remove_entry k) fair = pair_alike k
    answer_agrees len fair = eq-eqb (length first) (length second) (long_from_same c are)
    answer_agrees is_empty fair = rw (long_from_same c are) (bool_eq_equiv.refl (nat_eq (length second) 0))
    answer_agrees clear fair = refl

    -- one fair call leaves the two the same
    pub after_same : (call : Call K V) → IsFairCall eq N M first second call → AreSame (after eq N first call) (after eq M second call)
    after_same (insert k v) fair = if_same (fits_alike k fair) (put_same k v)
    after_same (insert_key_value k v) fair = if_same (fits_alike k fair) (put_key_same k v)
    after_same (remove k) fair = take_out_same k
    after_same (remove_entry k) fair = take_out_same k
    after_same clear fair = (comparable c.keys c.values (IsDistinct-nil eq) (IsDistinct-nil eq), refl)
    after_same call fair = (c, are)

module _ {K V : Type 0} {eq : K → K → Bool} {same : V → V → Bool} (N M : ℕ) where
  -- a fair list of calls gets answers that agree, and leaves the two the same
  pub run_same : (calls : List (Call K V)) → {first second : List (K × V)} → Comparable eq same first second → Same eq same first second
      → IsFair eq N M first second calls → AnswersAgree eq same N M first second calls
      × Same eq same (run eq N first calls).1 (run eq M second calls).1
  run_same [] c are fair = (refl, are)
  run_same (call ∷ calls) c are fair =
      let next = after_same c are N M call fair.0 in
      let rest = run_same calls next.0 next.1 fair.1 in
      (both_true (answer_agrees c are N M call fair.0) rest.0, rest.1)

  -- two lists are told apart exactly where they aren't the same: by a look-up of a key at which they differ
  told_apart : {first second : List (K × V)} → Comparable eq same first second
      → IsFalse (is_same eq same first second) ↔ ToldApart eq same N M first second
  told_apart c = (
    λ unlike.
        let at = differs_where_unlike c unlike in
        record {
          calls = get at.0 ∷ [];
          fair = (tt, tt);
          differ = λ agrees. false≢true (sym at.1 ∙ first_so _ true agrees);
        },
    λ apart. false_from_ne_true _ (λ are. apart.differ (run_same apart.calls c are apart.fair).0),
  )

-- all that a comparison of two maps answers, from their lengths m and n and their content
module _ {K V : Type 0} {eq : K → K → Bool} {same : V → V → Bool} {N M : ℕ}
    {first second : List (K × V)} (values : IsEquivalence same) (content : IsContent eq N first)
    (other : IsContent eq M second) {m n : ℕ} (one : m ≡ length first) (two : n ≡ length second) where
  -- what an answer says of the two
  abbrev Says : Bool → Type 0
  Says answer = (IsTrue answer ↔ Same eq same first second) × (IsTrue answer ↔ FindAlike eq same first second)
      × (IsFalse answer ↔ ToldApart eq same N M first second) × OnTrue answer (SameForGood eq same N M first second)

  compared : Comparable eq same first second
  compared = comparable (of_lawful eq content.lawful) values content.unique other.unique

  whole : Says (is_same eq same first second)
  whole = (
    (λ yes. yes, λ are. are),
    (alike_from_same compared, same_from_alike compared),
    told_apart N M compared,
    OnTrue_from (is_same eq same first second) (SameForGood eq same N M first second)
        (λ are calls. run_same N M calls compared are),
  )

  pub compared_long : m ≡ n → {answer : Bool} → answer ≡ list_all (has_value eq same second) first → Says answer
  compared_long long is = subst Says (sym (is ∙ same_if_long compared (sym one ∙ long ∙ two))) whole

  pub compared_short : m ≢ n → Says (nat_eq m n)
  compared_short apart = subst Says (unlike_if_apart compared (λ long. apart (one ∙ long ∙ sym two)) ∙ sym (ne_eqb m n apart)) whole
