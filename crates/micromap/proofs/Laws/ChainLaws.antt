-- For callers: chains of iterators. What `find` finds in a map or a set, the first value or item that passes a test, and
-- a test that all values or items pass; and what a map or a set is once it is built by a chain. Unequal keys or items are
-- built as they are, and those that pass a test are distinct too. What is made of all items of a chain is built of them,
-- or there is none, exactly if they have too many distinct keys. The ruleset `caller` of `Rules` has those that a search
-- needs.
use Rattle.std.proofs.Common.{◌≡◌, ℕ, nat_eq, Bool, true, false, List, [], ◌∷◌, Some, None, is_some}
use Rattle.std.proofs.Common.{refl, ap, sym, ◌∙◌, arith, option_map, if◌then◌else◌, map, nat_le, not}
use Rattle.std.proofs.Common.{◌+◌, ◌<◌, ◌≤◌, inl, inr, filter, fold, get_or, length, le-leb}
use Rattle.std.specs.{Cmp.IsEquivalence, Set.is_member, Set.distinct_count}
use Rattle.std.specs.List.{Contains, count_by, find, list_all, list_any, position, position_or_len, IsDistinct}
use Rattle.std.specs.Map.{lookup, lookup_entry, values_of, keys_of}
use Rattle.std.proofs.lemmas.{Bool.cases_Bool, Bool.false≢true, Bool.Decides.nat_tests, List.length-map, List.Filters.length-filter_both}
use Rattle.std.proofs.lemmas.{List.Folds.find_at, List.Quantifiers.position-Some, List.Sums.length-filter}
use Rattle.std.proofs.lemmas.{Map.Entries.length-keys_of, Map.Entries.lookup_from_place, Cmp.nat_eq_equiv, Map.Views.lookup-from_Contains}
use Rattle.std.proofs.lemmas.Map.Made.{distinct_count-from_IsDistinct, IsDistinct-from_count, IsDistinct-keys_filter}
use Rattle.micromap_core.specs.Build.{build, build_or_refuse, count_or_refuse, counts, counts_or_refuse, put_or_refuse}
use Rattle.micromap_core.specs.{Build.put_fitting, Build.put_whole, Equalities.Lawful, Pairs.at, Pairs.has, Pairs.IsUnique}
use Rattle.micromap_core.proofs.Laws.KeyedLemmas.{counts_keyed, pairs_keyed, whole_counted}
use Rattle.micromap_core.proofs.Laws.PuttingLemmas.{none_left}
use Rattle.micromap_core.proofs.{Laws.SublistLaws.IsDistinct-filter, Laws.MapLemmas.lookup-entry}
use Rattle.micromap_core.proofs.Laws.Equalities.{equalities, of_lawful, Trigger}
use Rattle.micromap_core.proofs.{Laws.LoopLaws.build_unique, Laws.LoopLaws.unique_map, Laws.MapLaws.at_alike, Laws.MapLaws.length_build}
use Rattle.micromap.specs.Extend.{distinct, distinct_or_refuse, put_item_or_refuse}
use Rattle.micromap.specs.Items.{item_fits, put_item, put_item_if_fits}
use Rattle.micromap.proofs.{Laws.AddedItems.added_all, Laws.ExtendLemmas.items_keyed, Laws.ItemLemmas.is_some-find}

module _ {K V : Type 0} where
  -- a key has a value exactly if it has a pair, and it is the pair's
  pub each_pair : (test : K → Bool) (pairs : List (K × V)) → Trigger (lookup_entry test pairs)
      (lookup test pairs ≡ option_map (λ e. e.1) (lookup_entry test pairs))
  each_pair test pairs = (refl, lookup-entry test pairs)

  -- equal keys are stored or not alike
  pub has_alike : (eq : K → K → Bool) (q k : K) (pairs : List (K × V)) → Lawful eq → eq q k ≡ true → has eq pairs q ≡ has eq pairs k
  has_alike eq q k pairs laws same = ap is_some (at_alike eq q k pairs laws same)

-- a search finds something exactly if something passes its test, and what it finds passes
module _ {X : Type 0} (test : X → Bool) where
  pub is_some_find : (items : List X) → Trigger (find test items) (is_some (find test items) ≡ list_any test items)
  is_some_find items = (refl, is_some-find test items)

  passes : (items : List X) (x : X) → find test items ≡ Some x → test x ≡ true
  passes [] x found = grind (arith, found)
  passes (y ∷ items) x found = grind (arith, found, passes items x)

  pub find_passes : (items : List X) → Trigger (find test items) ((x : X) → find test items ≡ Some x → test x ≡ true)
  find_passes items = (refl, passes items)

-- the first pair that passes a test
module _ {K V : Type 0} (test : K × V → Bool) where
  fails : (key : K → Bool) (pairs : List (K × V)) (p : K × V) → find test pairs ≡ None → lookup_entry key pairs ≡ Some p → test p ≡ false
  fails key [] p none found = grind (arith, found)
  fails key (e ∷ pairs) p none found = grind (arith, none, found, fails key pairs p)

  -- is what its key finds
  pub at_find : (eq : K → K → Bool) (pairs : List (K × V)) → Lawful eq → IsUnique eq pairs → Trigger (find test pairs)
      ((p : K × V) → find test pairs ≡ Some p → at eq pairs p.0 ≡ Some p.1)
  at_find eq pairs laws unique = (
    refl,
    λ p found. lookup_from_place (of_lawful eq laws) pairs
        (position_or_len test pairs) p.0 p.1 unique (sym (find_at test pairs) ∙ found),
  )

  -- where there is none, no pair that is found passes
  pub none_passes : (pairs : List (K × V)) → Trigger (find test pairs)
      (find test pairs ≡ None → (key : K → Bool) (p : K × V) → lookup_entry key pairs ≡ Some p → test p ≡ false)
  none_passes pairs = (refl, λ none key p found. fails key pairs p none found)

-- a pair of a map of numbers is what its key finds
pub at_contains : {V : Type 0} (pairs : List (ℕ × V)) (p : ℕ × V) → IsUnique nat_eq pairs → Contains pairs p
    → at nat_eq pairs p.0 ≡ Some p.1
at_contains pairs p unique there = lookup-from_Contains nat_eq_equiv p.0 p.1 pairs unique there

-- a test of the value: if all values pass, what a key finds does
module _ {K V : Type 0} (test : V → Bool) where
  value_passes : (eq : K → Bool) (pairs : List (K × V)) (v : V)
      → list_all test (values_of pairs) ≡ true → lookup eq pairs ≡ Some v → test v ≡ true
  value_passes eq [] v all found = grind (arith, found)
  value_passes eq (e ∷ pairs) v all found = grind (arith, all, found, value_passes eq pairs v)

  pub each_value : (pairs : List (K × V)) → Trigger (list_all test (values_of pairs))
      (list_all test (values_of pairs) ≡ true → (key : K → Bool) (v : V) → lookup key pairs ≡ Some v → test v ≡ true)
  each_value pairs = (refl, λ all key v found. value_passes key pairs v all found)

-- what a search finds is a member
pub member_find : {T : Type 0} (eq : T → T → Bool) (test : T → Bool) (items : List T) (x : T)
    → Lawful eq → find test items ≡ Some x → is_member eq items x ≡ true
member_find eq test [] x laws found = grind (arith, found)
member_find eq test (y ∷ items) x laws found = grind (arith, found, member_find eq test items x laws, (of_lawful eq laws).refl x)

-- a test that each member passes passes all items
pub all_members : {T : Type 0} (eq : T → T → Bool) (test : T → Bool) (items : List T) → Lawful eq
    → ((x : T) → is_member eq items x ≡ true → test x ≡ true) → list_all test items ≡ true
all_members eq test [] laws each = refl
all_members eq test (y ∷ items) laws each =
    let here : is_member eq (y ∷ items) y ≡ true = grind (arith, (of_lawful eq laws).refl y) in
    let rest = all_members eq test items laws (λ x member. each x (grind (arith, member))) in
    grind (arith, each y here, rest)

passes_there : (test : ℕ → Bool) (items : List ℕ) (x : ℕ) → list_all test items ≡ true → is_member nat_eq items x ≡ true → test x ≡ true
passes_there test [] x all member = absurd (false≢true member)
passes_there test (y ∷ items) x all member = grind (arith, nat_tests, all, member, passes_there test items x)

-- where all numbers of a list pass a test, each member does. Name it where it serves: with it in a ruleset some searches
-- reach their limit
pub member_passes : (test : ℕ → Bool) (items : List ℕ) → Trigger (list_all test items)
    ((x : ℕ) → list_all test items ≡ true → is_member nat_eq items x ≡ true → test x ≡ true)
member_passes test items = (refl, passes_there test items)

module _ {X : Type 0} (test : X → Bool) where
  found_passes : (items : List X) (other : X → Bool) (x : X) → list_all test items ≡ true → find other items ≡ Some x → test x ≡ true
  found_passes [] other x all found = grind (arith, found)
  found_passes (y ∷ items) other x all found = grind (arith, found, all, found_passes items other x)

  -- what a search finds passes each test that all items pass
  pub each_passes : (items : List X) → Trigger (list_all test items)
      (list_all test items ≡ true → (other : X → Bool) (x : X) → find other items ≡ Some x → test x ≡ true)
  each_passes items = (refl, λ all other x. found_passes items other x all)

  all_or_any : (items : List X) → list_all test items ≡ not (list_any (λ x. not (test x)) items)
  all_or_any [] = refl
  all_or_any (x ∷ items) = grind (arith, all_or_any items)

  -- all items pass a test exactly if none fails it. Name it too where it serves
  pub none_fails : (items : List X) → Trigger (list_all test items) (list_all test items ≡ not (list_any (λ x. not (test x)) items))
  none_fails items = (refl, all_or_any items)

-- a set that is built of distinct items has these items
pub distinct_unique : {T : Type 0} (eq : T → T → Bool) (items : List T) → Lawful eq → IsDistinct eq items → distinct eq items ≡ items
distinct_unique eq items laws unique = added_all (of_lawful eq laws) items unique

-- the keys of pairs that are made of the items of a list, each with its item as its key, are the items
module _ {K V : Type 0} (pair_of : K → K × V) where
  same_keys : (items : List K) → ((x : K) → (pair_of x).0 ≡ x) → keys_of (map pair_of items) ≡ items
  same_keys [] same = refl
  same_keys (x ∷ items) same = cc (same x, same_keys items same)

  pub keys_map : (items : List K) → ((x : K) → (pair_of x).0 ≡ x) → Trigger (map pair_of items) (keys_of (map pair_of items) ≡ items)
  keys_map items same = (refl, same_keys items same)

-- what a map or a set is that is made of all items: these put, or none if they have too many distinct keys
module _ {K V : Type 0} (eq : K → K → Bool) (N : ℕ) (items : List (K × V)) where
  pub build_or_refuse_is : Lawful eq → build_or_refuse eq N items
      ≡ (if nat_le (distinct_count eq (keys_of items)) N then Some (build eq items) else None)
  unfolding put_or_refuse
  build_or_refuse_is laws = whole_counted (of_lawful eq laws) (pairs_keyed eq N) items

-- what a counter is that all items came to, or none if too many of them are distinct
pub counts_or_refuse_is : {K : Type 0} (eq : K → K → Bool) (N : ℕ) (items : List K) → Lawful eq → counts_or_refuse eq N items
    ≡ (if nat_le (distinct_count eq items) N then Some (counts eq items) else None)
unfolding count_or_refuse counts
counts_or_refuse_is eq N items laws = whole_counted (of_lawful eq laws) (counts_keyed eq N) items

module _ {T : Type 0} (eq : T → T → Bool) (N : ℕ) (items : List T) where
  pub distinct_or_refuse_is : Lawful eq → distinct_or_refuse eq N items
      ≡ (if nat_le (distinct_count eq items) N then Some (distinct eq items) else None)
  unfolding put_item_or_refuse
  distinct_or_refuse_is laws = whole_counted (of_lawful eq laws) (items_keyed eq N) items

-- items that are all put if each has to fit are all put where those that don't fit are left out
module _ {C X : Type 0} (admits : C → X → Bool) (add : C → X → C) where
  all_put : (content whole : C) (items : List X) → fold (put_whole admits add) (Some content) items ≡ Some whole
      → fold (put_fitting admits add) content items ≡ whole
  all_put content whole [] put = cc
  all_put content whole (x ∷ items) put = elim (cases_Bool (admits content x)) [
    | inl fits ↦ rw fits (all_put (add content x) whole items (rw fits at put))
    | inr misfit ↦ (let none : fold (put_whole admits add) None items ≡ Some whole = rw misfit at put in cc (none_left admits add items))
  ]

few_enough : {K : Type 0} (eq : K → K → Bool) (N : ℕ) (keys : List K) → IsEquivalence eq
    → IsDistinct eq keys → length keys ≤ N → nat_le (distinct_count eq keys) N ≡ true
few_enough eq N keys laws unequal short = ap (λ n. nat_le n N) (distinct_count-from_IsDistinct laws keys unequal)
    ∙ le-leb (length keys) N short

-- distinct items that are no more than there is room for are a set's as they are
module _ {T : Type 0} (eq : T → T → Bool) (N : ℕ) (items : List T) where
  whole_unique : Lawful eq → IsDistinct eq items → length items ≤ N → distinct_or_refuse eq N items ≡ Some items
  whole_unique laws unequal short = distinct_or_refuse_is eq N items laws ∙ ap (λ b. if b then Some (distinct eq items) else None)
      (few_enough eq N items (of_lawful eq laws) unequal short) ∙ ap Some (distinct_unique eq items laws unequal)

  pub fitting_unique : Lawful eq → IsDistinct eq items → length items ≤ N → fold (put_item_if_fits eq N) [] items ≡ items
  unfolding put_item_or_refuse
  fitting_unique laws unequal short = all_put (item_fits eq N) (put_item eq) [] items items (whole_unique laws unequal short)

-- what passes a test is no longer, also as a function reads it
pub length_passing : {X Y : Type 0} (f : X → Y) (test : X → Bool) (items : List X) (N : ℕ)
    → length items ≤ N → length (map f (filter test items)) ≤ N
length_passing f test items N short =
    omega (arith, length-map (filter test items) f, length-filter_both test (λ x. not (test x)) (λ x. refl) items, short)

-- pairs of which none is put at the key of another are built as they are, also where a function makes them
module _ {K V : Type 0} (eq : K → K → Bool) where
  all_built : (pairs : List (K × V)) → Lawful eq → length (build eq pairs) ≡ length pairs → build eq pairs ≡ pairs
  all_built pairs laws all = build_unique eq pairs laws (IsDistinct-from_count (of_lawful eq laws) (keys_of pairs)
      (sym (length_build eq pairs laws) ∙ all ∙ sym (length-keys_of pairs)))

  pub each_built : (pairs : List (K × V)) → Lawful eq
      → Trigger (build eq pairs) (length (build eq pairs) ≡ length pairs → build eq pairs ≡ pairs)
  each_built pairs laws = (refl, all_built pairs laws)

  pub each_built_map : {X : Type 0} (pair_of : X → K × V) (items : List X) → Lawful eq
      → Trigger (build eq (map pair_of items)) (length (build eq (map pair_of items)) ≡ length items
      → build eq (map pair_of items) ≡ map pair_of items)
  each_built_map pair_of items laws = (refl, λ all. all_built (map pair_of items) laws (all ∙ sym (length-map items pair_of)))

-- the items that pass a test and those that don't are as many as there are
pub each_filter : {X : Type 0} (test : X → Bool) (items : List X) → Trigger (filter test items)
    (length (filter test items) + count_by (λ x. not (test x)) items ≡ length items)
each_filter test items = (
  refl,
  ap (λ n. length (filter test items) + n) (sym (length-filter (λ x. not (test x)) items))
      ∙ length-filter_both test (λ x. not (test x)) (λ x. refl) items,
)

-- at the position of the first item that passes a test one stands that passes, and there is one exactly if some item does
module _ {X : Type 0} (test : X → Bool) where
  any_at : (items : List X) → is_some (position test items) ≡ list_any test items
  any_at [] = refl
  any_at (x ∷ items) = grind (arith, any_at items)

  pub each_position : (items : List X) → Trigger (position test items) ((is_some (position test items) ≡ list_any test items)
      × ((i : ℕ) (d : X) → position test items ≡ Some i → (i < length items) × (test (get_or items i d) ≡ true)))
  each_position items = (refl, (any_at items, λ i d found. let all = position-Some test items i d found in (all.0, all.1)))

pub ruleset chain_laws = (
  each_pair,
  at_alike,
  has_alike,
  is_some_find,
  find_passes,
  at_find,
  at_contains,
  none_passes,
  each_value,
  nat_tests,
  equalities,
  member_find,
  all_members,
  each_passes,
  distinct_unique,
  unique_map,
  build_unique,
  keys_map,
  build_or_refuse_is,
  counts_or_refuse_is,
  distinct_or_refuse_is,
  IsDistinct-filter,
  IsDistinct-keys_filter,
  fitting_unique,
  length_passing,
  each_built,
  each_built_map,
  each_filter,
  each_position,
)
