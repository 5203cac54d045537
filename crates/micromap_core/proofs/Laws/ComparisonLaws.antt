-- For callers: two lists compared. What their lengths tell of the two, if the items or the keys of each are distinct; that
-- sameness is an equivalence; and that two maps that are the same stay the same where both get the same put, the same
-- removal, or the same fair list of calls. A map's or a set's `content` has the premises: `Lawful`, and the distinct items
-- or keys. Whether there is room is for the caller to know. The ruleset `comparison` of `Rules` has what a search needs.
use Rattle.std.proofs.Common.{◌≡◌, ◌<◌, ◌≤◌, ◌↔◌, ◌&&◌, ◌||◌, [], ◌∷◌, ◌∙◌, ℕ, ap, arith, false, filter, inl, inr, length, not, refl, sym}
use Rattle.std.proofs.Common.{true, Bool, IsFalse, IsTrue, List}
use Rattle.std.specs.{Cmp.IsEquivalence, Cmp.Derive.both_true, List.list_all, List.IsDistinct, Map.keys_of, Set.is_member}
use Rattle.std.proofs.lemmas.{Bool.cases_Bool, Bool.true≢false, Map.Entries.length-keys_of, Map.Made.is_some-lookup}
use Rattle.micromap_core.specs.{Calls.run, Calls.Call, Equalities.Lawful, Fair.AnswersAgree, Fair.IsFair}
use Rattle.micromap_core.specs.Pairs.{fits, has, has_room, put, put_key, take_out, IsUnique}
use Rattle.micromap_core.specs.Same.{has_value, have_equal_items, is_same, HaveEqualItems, Same}
use Rattle.micromap_core.specs.SameLaws.{have_equal_items_equiv, is_same_equiv}
use Rattle.micromap_core.proofs.Laws.DistinctLemmas.{length-filter_members, members_turned, missing_in_shorter}
use Rattle.micromap_core.proofs.Laws.FairLemmas.{put_key_same, put_same, run_same, take_out_same}
use Rattle.micromap_core.proofs.Laws.Equalities.{equalities, lawful, of_lawful, Trigger}
use Rattle.micromap_core.proofs.Laws.SameLemmas.{comparable, long_from_same, same_by_filters, same_if_long, Comparable}

-- where not all items pass a test, one fails it
some_fails : {T : Type 0} {eq : T → T → Bool} (laws : IsEquivalence eq) (test : T → Bool) (xs : List T) → list_all test xs ≡ false
    → (x : T) × (is_member eq xs x ≡ true) × (test x ≡ false)
some_fails laws test [] fails = absurd (true≢false fails)
some_fails {eq = eq} laws test (x ∷ xs) fails = elim (cases_Bool (test x)) [
  | inl passes ↦
      let there = some_fails laws test xs (grind (arith, passes, fails)) in
      (there.0, grind (arith, there.1), there.2)
  | inr here ↦ (x, ap (λ b. b || is_member eq xs x) (laws.refl x), here)
]

-- of items
module _ {T : Type 0} (eq : T → T → Bool) (equality : Lawful eq) where
  pub sameness_of_items : Lawful (have_equal_items eq)
  sameness_of_items = lawful (have_equal_items eq) (have_equal_items_equiv (of_lawful eq equality))

  module _ (xs ys : List T) (distinct : IsDistinct eq xs) where
    -- at most as many of the one list have an equal one in the other as the other is long
    pub few_have_equals : length (filter (is_member eq ys) xs) ≤ length ys
    few_have_equals = length-filter_members (of_lawful eq equality) xs ys distinct

    -- the longer list has an item that the other lacks
    pub longer_has_item : length ys < length xs → (x : T) × (is_member eq xs x ≡ true) × (is_member eq ys x ≡ false)
    longer_has_item longer = some_fails (of_lawful eq equality)
        (is_member eq ys) xs (missing_in_shorter (of_lawful eq equality) xs ys distinct longer)

    -- of equally long lists, one side tells of both
    pub equal_items_from_one_side : length xs ≡ length ys → IsTrue (list_all (is_member eq ys) xs) → HaveEqualItems eq xs ys
    equal_items_from_one_side long all = both_true all (members_turned (of_lawful eq equality) xs ys distinct all (omega (arith, long)))

-- of pairs
module _ {K V : Type 0} (eq : K → K → Bool) (equality : Lawful eq) where
  -- the longer list has a key that the other lacks
  pub longer_has_key : (first second : List (K × V)) → IsUnique eq first
      → length second < length first → (k : K) × (has eq first k ≡ true) × (has eq second k ≡ false)
  longer_has_key first second unique longer =
      let key = longer_has_item eq equality (keys_of first) (keys_of second) unique
      (omega (arith, longer, length-keys_of first, length-keys_of second)) in
      (key.0, is_some-lookup (eq key.0) first ∙ key.1, is_some-lookup (eq key.0) second ∙ key.2)

  module _ (same : V → V → Bool) (values : Lawful same) where
    -- sameness is reflexive, symmetric and transitive, also of lists with repeated keys
    pub sameness : Lawful (is_same eq same)
    sameness = lawful (is_same eq same) (is_same_equiv (of_lawful eq equality) (of_lawful same values))

    module _ (first second : List (K × V)) (unique_first : IsUnique eq first) (unique_second : IsUnique eq second) where
      pair : Comparable eq same first second
      pair = comparable (of_lawful eq equality) (of_lawful same values) unique_first unique_second

      -- of equally long lists, one side tells of both
      pub same_from_one_side : length first ≡ length second → IsTrue (list_all (has_value eq same second) first) → Same eq same first second
      same_from_one_side long all = sym (same_if_long pair long) ∙ all

      -- and lists that are the same are equally long
      pub length_same : Same eq same first second → length first ≡ length second
      length_same = long_from_same pair

      -- they are the same exactly where no key is in one alone, and none has unequal values
      pub same_iff_filters : Same eq same first second ↔ ((filter (λ p. not (has eq second p.0)) first ≡ [])
          × (filter (λ p. not (has eq first p.0)) second ≡ [])
          × (filter (λ p. has eq second p.0 && not (has_value eq same second p)) first ≡ []))
      same_iff_filters = same_by_filters pair

-- the insertion of a key that fits both lists, or neither, is fair
pub fair_where_fits : {K V : Type 0} (eq : K → K → Bool) (N M : ℕ) (first second : List (K × V))
    (k : K) → fits eq N first k ≡ fits eq M second k → IsFalse (has eq first k)
    → IsFalse (has eq second k) → has_room N first ≡ has_room M second
fair_where_fits eq N M first second k fit missing also =
    ap (λ b. b || has_room N first) (sym missing) ∙ fit ∙ ap (λ b. b || has_room M second) also

-- a fair list of calls gets answers that agree from both, and leaves the two the same
pub same_for_good : {K V : Type 0} (eq : K → K → Bool) (same : V → V → Bool) (N M : ℕ)
    (first second : List (K × V)) (calls : List (Call K V)) → Lawful eq → Lawful same
    → IsUnique eq first → IsUnique eq second → Same eq same first second
    → IsFair eq N M first second calls → AnswersAgree eq same N M first second calls
    × Same eq same (run eq N first calls).1 (run eq M second calls).1
same_for_good eq same N M first second calls keys values one other =
    run_same N M calls (comparable (of_lawful eq keys) (of_lawful same values) one other)

-- both get the same put, or the same removal
module _ {K V : Type 0} (eq : K → K → Bool) (same : V → V → Bool) (first second : List (K × V)) (k : K) where
  pub same_put : (v : V) → Lawful eq → Lawful same → IsUnique eq first → IsUnique eq second
      → Same eq same first second → Same eq same (put eq first k v) (put eq second k v)
  same_put v keys values one other are = (put_same (comparable (of_lawful eq keys) (of_lawful same values) one other) are k v).1

  pub same_put_key : (v : V) → Lawful eq → Lawful same → IsUnique eq first → IsUnique eq second
      → Same eq same first second → Same eq same (put_key eq first k v) (put_key eq second k v)
  same_put_key v keys values one other are = (put_key_same (comparable (of_lawful eq keys) (of_lawful same values) one other) are k v).1

  pub same_take_out : Lawful eq → Lawful same → IsUnique eq first → IsUnique eq second
      → Same eq same first second → Same eq same (take_out eq first k) (take_out eq second k)
  same_take_out keys values one other are = (take_out_same (comparable (of_lawful eq keys) (of_lawful same values) one other) are k).1

-- the same by the word alone: for a search that doesn't see the equality in what it computes to
module _ {K V : Type 0} (eq : K → K → Bool) (first : List (K × V)) (k : K) where
  pub each_same_put : (v : V) → Lawful eq → IsUnique eq first → Trigger (put eq first k v)
      ((same : V → V → Bool) (second : List (K × V)) → Lawful same → IsUnique eq second
      → Same eq same first second → Same eq same (put eq first k v) (put eq second k v))
  each_same_put v keys unique = (refl, λ same second values. same_put eq same first second k v keys values unique)

  pub each_same_put_key : (v : V) → Lawful eq → IsUnique eq first → Trigger (put_key eq first k v)
      ((same : V → V → Bool) (second : List (K × V)) → Lawful same → IsUnique eq second
      → Same eq same first second → Same eq same (put_key eq first k v) (put_key eq second k v))
  each_same_put_key v keys unique = (refl, λ same second values. same_put_key eq same first second k v keys values unique)

  pub each_same_take_out : Lawful eq → IsUnique eq first → Trigger (take_out eq first k)
      ((same : V → V → Bool) (second : List (K × V)) → Lawful same → IsUnique eq second
      → Same eq same first second → Same eq same (take_out eq first k) (take_out eq second k))
  each_same_take_out keys unique = (refl, λ same second values. same_take_out eq same first second k keys values unique)

-- for who knows that two maps are the same
pub ruleset same_laws = (each_same_put, each_same_put_key, each_same_take_out, equalities)
