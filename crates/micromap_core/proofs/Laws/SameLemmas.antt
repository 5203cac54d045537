-- For proofs: two lists with distinct keys are the same exactly if every key finds equal values in both, or none in
-- either. If the lists are equally long, one side is enough: they are the same if one has an equal value at each key of
-- the other. The pairs are items that are distinct, and `DistinctLemmas` says so of any such items.
use Rattle.std.proofs.Common.{◌≡◌, [], ◌∷◌, ◌∙◌, ◌↔◌, ◌≢◌, ◌&&◌, ◌||◌, ℕ, ap, arith, false, filter, get_or, if◌then◌else◌, is_some, length}
use Rattle.std.proofs.Common.{not, refl, slice_get, subst, sym, true, Bool, Bor, IfSome, IsFalse, IsNone, IsTrue, List, None, Option, Some}
use Rattle.std.specs.Cmp.{and_equiv, first_so, on_equiv, second_so, IsEquivalence}
use Rattle.std.specs.{Cmp.Derive.both_true, Cmp.Lexicographic.options_equiv, Map.keys_of, Set.is_member}
use Rattle.std.specs.List.{find, list_all, AllByRecursion, IsDistinct}
use Rattle.std.specs.Option.{option_copied, option_eq, option_map, option_map_or, option_or, MatchOption}
use Rattle.std.proofs.Math.Bool.{or-false}
use Rattle.std.proofs.lemmas.{Bool.false≢true, List.Sums.list_all-from_AllPass, Map.lookup-none}
use Rattle.std.proofs.lemmas.{Map.Entries.lookup_from_place, Map.Entries.none_past_head, Map.Keys.any_passes_from_place}
use Rattle.std.proofs.lemmas.{Map.Made.is_some-lookup, Option.slice_get-get_or}
use Rattle.micromap_core.specs.Pairs.{at, has, IsUnique}
use Rattle.micromap_core.specs.Same.{first_difference, first_missing, first_unequal, has_value, is_same, pair_eq, same_at, Same}
use Rattle.micromap_core.proofs.{Laws.DistinctLemmas.both_sides, Laws.DistinctLemmas.not_both_sides, Laws.Equalities.lawful}
use Rattle.micromap_core.proofs.Laws.MapLaws.{at_alike}
use Rattle.micromap_core.proofs.Laws.Lists.{all_by_find, find_tells}

-- at the next of the pairs that are left: what the other list has at its key is found
module _ {K V : Type 0} (eq : K → K → Bool) (same : V → V → Bool) (k : K) (v : Bor V) (other : List (K × V)) where
  pub found_value : (found : Option (Bor V)) → option_copied found ≡ at eq other k
      → option_eq (λ x y. same x.now y.now) found (Some v) ≡ has_value eq same other (k, v.now)
  found_value found is = grind (arith, is)

  pub unequal_step : {left rest : List (K × V)} → left ≡ (k, v.now) ∷ rest
      → (found : Option (Bor V)) → option_copied found ≡ at eq other k → {b : Bool}
      → b ≡ not (option_eq (λ x y. same x.now y.now) found (Some v))
      → first_unequal eq same left other ≡ (if b then Some k else first_unequal eq same rest other)
  unequal_step next found is tells = rw next (grind (arith, tells, found_value found is))

-- at the next of the keys that are left: whether the other list has it is known
pub missing_step : {K V : Type 0} (eq : K → K → Bool) (other : List (K × V)) {k : K}
    {left rest : List K} → left ≡ k ∷ rest → {b : Bool} → b ≡ has eq other k → find (λ l. not (has eq other l)) left
    ≡ (if b then find (λ l. not (has eq other l)) rest else Some k)
missing_step eq other next tells = rw next (grind (arith, tells))

module _ {K V : Type 0} (eq : K → K → Bool) (same : V → V → Bool) (first second : List (K × V)) where
  -- each list has distinct keys, and the equalities of keys and of values are equivalences
  pub record Comparable : Type 0 where
    pub keys : IsEquivalence eq
    pub values : IsEquivalence same
    pub unique_first : IsUnique eq first
    pub unique_second : IsUnique eq second

  -- what the two lists have at each key agrees
  abbrev pub FindAlike : Type 0
  FindAlike = (k : K) → IsTrue (same_at eq same first second k)

module _ {K V : Type 0} {eq : K → K → Bool} {same : V → V → Bool} where
  -- the record from its parts, and with the lists in the other order
  pub comparable : {first second : List (K × V)} → IsEquivalence eq → IsEquivalence same
      → IsUnique eq first → IsUnique eq second → Comparable eq same first second
  comparable k v one two = record { keys = k; values = v; unique_first = one; unique_second = two }

  turned : {first second : List (K × V)} → Comparable eq same first second → Comparable eq same second first
  turned c = comparable c.keys c.values c.unique_second c.unique_first

-- what is true of one list of pairs, and of one and the second of the two
module _ {K V : Type 0} {eq : K → K → Bool} {same : V → V → Bool} {first second : List (K × V)} (c : Comparable eq same first second) where
  -- pairs with distinct keys are distinct
  apart_pairs : (p : K × V) (pairs : List (K × V)) → AllByRecursion (λ k. eq p.0 k ≡ false) (keys_of pairs)
      → AllByRecursion (λ q. pair_eq eq same p q ≡ false) pairs
  apart_pairs p [] apart = tt
  apart_pairs p (q ∷ qs) apart = (ap (λ b. b && same p.1 q.1) apart.0, apart_pairs p qs apart.1)

  distinct_pairs : (pairs : List (K × V)) → IsUnique eq pairs → IsDistinct (pair_eq eq same) pairs
  unfolding IsDistinct
  distinct_pairs [] unique = tt
  distinct_pairs (p ∷ ps) unique = (apart_pairs p ps unique.0, distinct_pairs ps unique.1)

  pair_laws : IsEquivalence (pair_eq eq same)
  pair_laws = and_equiv (on_equiv (λ p. p.0) c.keys) (on_equiv (λ p. p.1) c.values)

  -- a list has a pair where the key finds an equal value
  has_pair : (pairs : List (K × V)) (p : K × V) → IsUnique eq pairs → is_member (pair_eq eq same) pairs p ≡ has_value eq same pairs p
  unfolding IsDistinct
  has_pair [] p unique = refl
  has_pair (e ∷ es) p unique = grind (
    arith,
    has_pair es p unique.1,
    lookup-none (eq p.0) es,
    none_past_head c.keys p.0 e es unique,
    or-false (same p.1 e.1),
    c.values.symm p.1 e.1,
  )

  values_are : (pairs : List (K × V)) → list_all (has_value eq same second) pairs ≡ list_all (is_member (pair_eq eq same) second) pairs
  values_are pairs = ap (λ test. list_all test pairs) (λ i p. sym (has_pair second p c.unique_second) i)

  -- of equally long lists one side tells of both, and lists that aren't equally long aren't the same
  pub same_if_long : length first ≡ length second → list_all (has_value eq same second) first ≡ is_same eq same first second
  same_if_long long = values_are first ∙ both_sides pair_laws first second (distinct_pairs first c.unique_first)
      (distinct_pairs second c.unique_second) long

  pub unlike_if_apart : length first ≢ length second → IsFalse (is_same eq same first second)
  unlike_if_apart = not_both_sides pair_laws first second (distinct_pairs first c.unique_first) (distinct_pairs second c.unique_second)

  pub long_from_same : Same eq same first second → length first ≡ length second
  long_from_same are = grind (arith, are, unlike_if_apart)

  -- what is at a key of a list is at the key in the second, where that has an equal value at each key, or each key
  equal_at : (pairs : List (K × V)) → list_all (has_value eq same second) pairs ≡ true → (k : K)
      → option_map_or (λ v. option_eq same (at eq second k) (Some v)) (at eq pairs k) true ≡ true
  equal_at [] all k = refl
  equal_at (e ∷ es) all k = grind (arith, equal_at es, all, at_alike eq k e.0 second (lawful eq c.keys))

  stored_at : (pairs : List (K × V)) → list_all (has eq second) (keys_of pairs) ≡ true → (k : K)
      → (not (has eq pairs k) || has eq second k) ≡ true
  stored_at [] all k = refl
  stored_at (e ∷ es) all k = grind (arith, stored_at es, all, at_alike eq k e.0 second (lawful eq c.keys))

  -- what the second lacks, or has with an unequal value, is nothing where it has an equal one at each key
  filters_empty : (pairs : List (K × V)) → list_all (has_value eq same second) pairs ≡ true
      → (filter (λ p. not (has eq second p.0)) pairs ≡ [])
      × (filter (λ p. has eq second p.0 && not (has_value eq same second p)) pairs ≡ [])
  filters_empty [] all = (refl, refl)
  filters_empty (e ∷ es) all = (grind (arith, filters_empty es, all), grind (arith, filters_empty es, all))

  equal_from_filters : (pairs : List (K × V)) → filter (λ p. not (has eq second p.0)) pairs ≡ []
      → filter (λ p. has eq second p.0 && not (has_value eq same second p)) pairs ≡ [] → list_all (has_value eq same second) pairs ≡ true
  equal_from_filters [] missing unequal = refl
  equal_from_filters (e ∷ es) missing unequal = grind (arith, equal_from_filters es, missing, unequal)

  stored_from_filter : (pairs : List (K × V)) → filter (λ p. not (has eq second p.0)) pairs ≡ []
      → list_all (has eq second) (keys_of pairs) ≡ true
  stored_from_filter [] missing = refl
  stored_from_filter (e ∷ es) missing = grind (arith, stored_from_filter es, missing)

  -- at a key of the first, the two agree where the second has an equal value
  own_value : (i : ℕ) (p : K × V) → slice_get first i ≡ Some p → same_at eq same first second p.0 ≡ has_value eq same second p
  own_value i p here = ap (λ o. option_eq same o (at eq second p.0)) (lookup_from_place c.keys first i p.0 p.1 c.unique_first here)
      ∙ (options_equiv c.values).symm (Some p.1) (at eq second p.0)

  within_from_alike : FindAlike eq same first second → list_all (is_member (pair_eq eq same) second) first ≡ true
  within_from_alike alike = sym (values_are first) ∙ list_all-from_AllPass (has_value eq same second) first (λ i d within.
      let p = get_or first i d in
      sym (own_value i p (slice_get-get_or first i d within)) ∙ alike p.0)

-- of the two lists
module _ {K V : Type 0} {eq : K → K → Bool} {same : V → V → Bool} {first second : List (K × V)} (c : Comparable eq same first second) where
  pub same_from_alike : FindAlike eq same first second → Same eq same first second
  same_from_alike alike = both_true (within_from_alike c alike) (within_from_alike (turned c)
      (λ k. (options_equiv c.values).symm (at eq second k) (at eq first k) ∙ alike k))

  values_within : Same eq same first second → list_all (has_value eq same second) first ≡ true
  values_within are = values_are c first ∙ first_so _ _ are

  values_turned : Same eq same first second → list_all (has_value eq same first) second ≡ true
  values_turned are = values_are (turned c) second ∙ second_so _ _ are

  -- they are alike where the second has an equal value at each key of the first, and the first each key of the second
  alike_within : list_all (has_value eq same second) first ≡ true
      → list_all (has eq first) (keys_of second) ≡ true → FindAlike eq same first second
  alike_within equal stored k = grind (
    arith,
    equal_at c first equal k,
    stored_at (turned c) second stored k,
    (options_equiv c.values).symm (at eq first k) (at eq second k),
  )

  pub alike_from_same : Same eq same first second → FindAlike eq same first second
  alike_from_same are = alike_within (values_within are) (stored_from_filter (turned c) second
      (filters_empty (turned c) second (values_turned are)).0)

  -- and where what one lacks, or has with an unequal value, is nothing
  pub same_by_filters : Same eq same first second ↔ ((filter (λ p. not (has eq second p.0)) first ≡ [])
      × (filter (λ p. not (has eq first p.0)) second ≡ [])
      × (filter (λ p. has eq second p.0 && not (has_value eq same second p)) first ≡ []))
  same_by_filters = (
    λ are.
        let one = filters_empty c first (values_within are) in
        (one.0, (filters_empty (turned c) second (values_turned are)).0, one.1),
    λ none. same_from_alike (alike_within (equal_from_filters c first none.0 none.2) (stored_from_filter (turned c) second none.1)),
  )

  abbrev Differ : K → Type 0
  Differ k = IsFalse (same_at eq same first second k)

  -- what an answer tells: none, that the two are the same, and a key, that they differ there
  abbrev Told : Option K → Type 0
  Told d = MatchOption d (Same eq same first second) Differ

  -- the first difference tells it
  difference : Told (first_difference eq same first second)
  difference = by (find (λ p. not (has_value eq same second p)) first)
      (find_tells (has_value eq same second) first (λ i p here fails. own_value c i p here ∙ fails)) (first_missing eq same second first)
      (find_tells (has eq first) (keys_of second) (λ i k here fails.
      grind (arith, fails, is_some-lookup (eq k) second ∙ any_passes_from_place (eq k) (keys_of second) i k here (c.keys.refl k))))
    where
      by : (o : Option (K × V)) → MatchOption o (list_all (has_value eq same second) first ≡ true) (λ p. Differ p.0) → (r : Option K)
          → MatchOption r (list_all (has eq first) (keys_of second) ≡ true) Differ → Told (option_or (option_map (λ p. p.0) o) r)
      by (Some p) unequal r missing = unequal
      by None equal (Some k) missing = missing
      by None equal None stored = same_from_alike (alike_within equal stored)

  -- an answer that is the first difference is none exactly where the two are the same, and else they differ there
  pub answered_difference : (answer : Option (Bor K)) → option_copied answer ≡ first_difference eq same first second
      → (option_copied answer ≡ first_difference eq same first second) × (IsNone answer ↔ Same eq same first second)
      × IfSome answer (λ k. Differ k.now)
  answered_difference answer is = let told = by answer (subst Told (sym is) difference) in (is, told.0, told.1)
    where
      by : (answer : Option (Bor K)) → Told (option_copied answer)
          → (IsNone answer ↔ Same eq same first second) × IfSome answer (λ k. Differ k.now)
      by None are = ((λ none. are, λ are. refl), tt)
      by (Some k) differs = (
        (λ none. absurd (false≢true (sym none)), λ are. absurd (false≢true (sym differs ∙ alike_from_same are k.now))),
        differs,
      )

  -- two lists that aren't the same differ at some key
  pub differs_where_unlike : IsFalse (is_same eq same first second) → (k : K) × Differ k
  differs_where_unlike unlike = by (first_difference eq same first second) difference
    where
      by : (d : Option K) → Told d → (k : K) × Differ k
      by None are = absurd (false≢true (sym unlike ∙ are))
      by (Some k) differs = (k, differs)

-- where no first unequal key is found, there is an equal value at each
pub none_unequal : {K V : Type 0} (eq : K → K → Bool) (same : V → V → Bool) (first second : List (K × V)) (found : Option (Bor K))
    → option_copied found ≡ first_unequal eq same first second → (answer : Bool)
    → is_some found ≡ not answer → answer ≡ list_all (has_value eq same second) first
none_unequal eq same first second found is answer none = grind (arith, is, none, all_by_find (has_value eq same second) first)
