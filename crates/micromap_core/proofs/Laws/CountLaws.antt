-- For callers: what a map has into which a loop merges values (`merged`): after one item more, at each key, and how many
-- keys there are; how many keys a map has after a list is put into it, and what a counter has. The ruleset `caller` of
-- `Rules` has those that a search needs.
use Rattle.std.proofs.Common.{◌≡◌, ℕ, ◌+◌, ◌<◌, ◌≤◌, ◌||◌, [], ◌∷◌, ◌++◌, ◌∙◌, ap, arith, cond, false, filter, fold, get_or, length, map}
use Rattle.std.proofs.Common.{refl, sym, take, true, unwrap_or, Bool, List, Option, Some}
use Rattle.std.specs.{List.count_by, List.fold, List.list_any, Map.keys_of, Map.values_of, Set.distinct_count}
use Rattle.std.proofs.lemmas.{Grind.common_steps, Map.Entries.length-keys_of, Map.Made.is_some-lookup}
use Rattle.std.proofs.lemmas.List.{length-take, map-id, nil_from_length, take_all}
use Rattle.std.proofs.lemmas.List.Sums.{count_by-le-length, fold_more, fold_push}
use Rattle.micromap_core.specs.Build.{count_one, counts, merge_pair, merged, put_all}
use Rattle.micromap_core.specs.Equalities.{Lawful}
use Rattle.micromap_core.specs.Pairs.{at, fits, has, put, IsUnique}
use Rattle.micromap_core.proofs.Laws.KeyedLemmas.{counts_keyed, distinct-fold, fold_beyond, length-built, length-fold, member-fold}
use Rattle.micromap_core.proofs.Laws.KeyedLemmas.{puts_keyed, IsKeyed}
use Rattle.micromap_core.proofs.Laws.Equalities.{of_lawful, Trigger}
use Rattle.micromap_core.proofs.{Laws.MapLaws.at_alike, Laws.MapLaws.at_put, Laws.MapLaws.unique_empty, Laws.Lists.all_read}
use Rattle.micromap_core.proofs.Laws.Lists.{taken_read}

module _ {K V W : Type 0} (eq : K → K → Bool) (step : Option V → W → V) where
  -- no item, the first item, and one more
  pub merged_none : (pairs : List (K × V)) → merged eq step pairs [] ≡ pairs
  unfolding merged
  merged_none pairs = refl

  pub merged_first : (pairs : List (K × V)) (item : K × W) (items : List (K × W))
      → merged eq step pairs (item ∷ items) ≡ merged eq step (merge_pair eq step pairs item) items
  unfolding merged
  merged_first pairs item items = refl

  pub merged_push : (pairs : List (K × V)) (items : List (K × W)) (item : K × W) → merged eq step pairs (items ++ item ∷ [])
      ≡ merge_pair eq step (merged eq step pairs items) item
  unfolding merged
  merged_push pairs items item = fold_push (merge_pair eq step) pairs items item

  pub merged_take : (pairs : List (K × V)) (items : List (K × W)) (i : ℕ) (d : K × W)
      → i < length items → merged eq step pairs (take (i + 1) items)
      ≡ merge_pair eq step (merged eq step pairs (take i items)) (get_or items i d)
  unfolding merged
  merged_take pairs items i d within = fold_more (merge_pair eq step) pairs items i d within

  merges_keyed : IsKeyed eq 0 (λ pairs item. fits eq 0 pairs item.0) (merge_pair eq step) keys_of
      (λ item. item.0) [] (λ items. distinct_count eq (keys_of items))
  merges_keyed = puts_keyed eq 0 (λ item. item.0) (λ pairs item. step (at eq pairs item.0) item.1)

  -- what a key finds: its value, with the items of equal keys
  pub at_merged : (pairs : List (K × V)) (items : List (K × W)) (q : K) → Lawful eq
      → at eq (merged eq step pairs items) q ≡ fold (λ o w. Some (step o w)) (at eq pairs q)
      (values_of (filter (λ item. eq item.0 q) items))
  unfolding merged
  at_merged pairs [] q laws = refl
  at_merged pairs (item ∷ items) q laws =
      let alike : eq item.0 q ≡ true → at eq pairs item.0 ≡ at eq pairs q = at_alike eq item.0 q pairs laws in
      grind (
        arith,
        at_merged (merge_pair eq step pairs item) items q laws,
        at_put eq pairs item.0 (step (at eq pairs item.0) item.1) q laws,
        alike,
      )

  pub has_merged : (pairs : List (K × V)) (items : List (K × W)) (q : K) → Lawful eq
      → has eq (merged eq step pairs items) q ≡ (has eq items q || has eq pairs q)
  unfolding merged
  has_merged pairs items q laws = grind (
    arith,
    member-fold (of_lawful eq laws) merges_keyed pairs items q,
    is_some-lookup (eq q) (merged eq step pairs items),
    is_some-lookup (eq q) pairs,
    is_some-lookup (eq q) items,
  )

  pub unique_merged : (pairs : List (K × V)) (items : List (K × W)) → Lawful eq → IsUnique eq pairs
      → IsUnique eq (merged eq step pairs items)
  unfolding merged
  unique_merged pairs items laws unique = distinct-fold (of_lawful eq laws) merges_keyed pairs items unique

  -- how many keys there are
  pub length_merged : (pairs : List (K × V)) (items : List (K × W)) → Lawful eq → IsUnique eq pairs
      → length (merged eq step pairs items) ≡ distinct_count eq (keys_of pairs ++ keys_of items)
  unfolding merged
  length_merged pairs items laws unique = sym (length-keys_of (merged eq step pairs items))
      ∙ length-fold (of_lawful eq laws) merges_keyed pairs items unique

  -- an item that is merged when its key is new is one more
  pub merged_beyond : (pairs : List (K × V)) (items : List (K × W)) (i : ℕ) (d : K × W) → i < length items → Lawful eq → IsUnique eq pairs
      → has eq (merged eq step pairs (take i items)) (get_or items i d).0 ≡ false
      → length (merged eq step pairs (take i items)) < length (merged eq step pairs items)
  unfolding merged
  merged_beyond pairs items i d within laws unique new =
      let before = merged eq step pairs (take i items) in
      omega (
        arith,
        fold_beyond (of_lawful eq laws) merges_keyed pairs items i d within unique
            (sym (is_some-lookup (eq (get_or items i d).0) before) ∙ new),
        length-keys_of before,
        length-keys_of (merged eq step pairs items),
      )

  -- the same of the first item that is still to come
  pub merged_beyond_first : (pairs : List (K × V)) (item : K × W) (items : List (K × W))
      → Lawful eq → IsUnique eq pairs → has eq pairs item.0 ≡ false → length pairs < length (merged eq step pairs (item ∷ items))
  unfolding merged
  merged_beyond_first pairs item items = merged_beyond pairs (item ∷ items) 0 item (omega arith)

  -- what a search needs, at once: of all items, and of the first so many, also where a function reads them
  pub each_merged : (pairs : List (K × V)) (items : List (K × W)) → Lawful eq
      → Trigger (merged eq step pairs items) (((q : K) → at eq (merged eq step pairs items) q
      ≡ fold (λ o w. Some (step o w)) (at eq pairs q) (values_of (filter (λ item. eq item.0 q) items)))
      × ((q : K) → has eq (merged eq step pairs items) q ≡ (has eq items q || has eq pairs q))
      × (IsUnique eq pairs → IsUnique eq (merged eq step pairs items)) × (IsUnique eq pairs → length (merged eq step pairs items)
      ≡ distinct_count eq (keys_of pairs ++ keys_of items)))
  each_merged pairs items laws = (
    refl,
    (
      λ q. at_merged pairs items q laws,
      λ q. has_merged pairs items q laws,
      λ unique. unique_merged pairs items laws unique,
      λ unique. length_merged pairs items laws unique,
    ),
  )

  -- what a loop ends with where its iterator has no items left
  pub each_merged_end : (pairs : List (K × V)) (items : List (K × W))
      → Trigger (merged eq step pairs items) (length items ≡ 0 → merged eq step pairs items ≡ pairs)
  each_merged_end pairs items = (refl, λ none. ap (merged eq step pairs) (nil_from_length items none) ∙ merged_none pairs)

  pub each_merged_take : (pairs : List (K × V)) (items : List (K × W)) (i : ℕ) → Trigger (merged eq step pairs (take i items))
      ((length items ≤ i → merged eq step pairs (take i items) ≡ merged eq step pairs items) × ((d : K × W) → i < length items
      → merged eq step pairs (take (i + 1) items) ≡ merge_pair eq step (merged eq step pairs (take i items)) (get_or items i d))
      × (Lawful eq → IsUnique eq pairs → (d : K × W) → i < length items
      → has eq (merged eq step pairs (take i items)) (get_or items i d).0 ≡ false
      → length (merged eq step pairs (take i items)) < length (merged eq step pairs items)))
  each_merged_take pairs items i = (
    refl,
    (
      λ over. ap (merged eq step pairs) (take_all i items over),
      merged_take pairs items i,
      λ laws unique d within new. merged_beyond pairs items i d within laws unique new,
    ),
  )

  pub each_merged_take_map : {X : Type 0} (read : X → K × W) (pairs : List (K × V)) (items : List X) (i : ℕ)
      → Trigger (merged eq step pairs (map read (take i items))) ((length items ≤ i → merged eq step pairs (map read (take i items))
      ≡ merged eq step pairs (map read items)) × ((d : X) → i < length items → merged eq step pairs (map read (take (i + 1) items))
      ≡ merge_pair eq step (merged eq step pairs (map read (take i items))) (read (get_or items i d)))
      × (Lawful eq → IsUnique eq pairs → (d : X) → i < length items → has eq (merged eq step pairs (map read (take i items)))
      (read (get_or items i d)).0 ≡ false → length (merged eq step pairs (map read (take i items))) < length
      (merged eq step pairs (map read items))))
  each_merged_take_map read pairs items i =
      let made = merged eq step pairs in
      let all = each_merged_take pairs (map read items) i in (
        refl,
        (
          all_read read items i (λ l. made l ≡ made (map read items)) all.1.0,
          taken_read read items i (λ first more item. made more ≡ merge_pair eq step (made first) item) all.1.1,
          λ laws unique. taken_read read items i (λ first more item. has eq (made first) item.0 ≡ false
              → length (made first) < length (made (map read items))) (all.1.2 laws unique),
        ),
      )

-- a list of pairs that is put
module _ {K V : Type 0} (eq : K → K → Bool) where
  -- how many keys there are then
  pub length_put_all : (pairs items : List (K × V)) → Lawful eq → IsUnique eq pairs
      → length (put_all eq pairs items) ≡ distinct_count eq (keys_of pairs ++ keys_of items)
  unfolding merged
  length_put_all = length_merged eq (λ o v. v)

  pub each_put_all_take : (pairs items : List (K × V)) (i : ℕ) → Lawful eq → IsUnique eq pairs → Trigger (put_all eq pairs (take i items))
      ((length items ≤ i → put_all eq pairs (take i items) ≡ put_all eq pairs items) × ((d : K × V) → i < length items
      → put_all eq pairs (take (i + 1) items) ≡ put eq (put_all eq pairs (take i items)) (get_or items i d).0 (get_or items i d).1)
      × ((d : K × V) → i < length items → has eq (put_all eq pairs (take i items)) (get_or items i d).0 ≡ false
      → length (put_all eq pairs (take i items)) < length (put_all eq pairs items)))
  unfolding merged
  each_put_all_take pairs items i laws unique =
      let all = each_merged_take eq (λ o v. v) pairs items i in
      (refl, (all.1.0, all.1.1, all.1.2 laws unique))

-- a counter
module _ {K : Type 0} (eq : K → K → Bool) where
  pub counts_none : counts eq [] ≡ []
  unfolding counts
  counts_none = refl

  -- the count of q after one more of x
  pub count_more : (pairs : List (K × ℕ)) (x q : K) → Lawful eq → unwrap_or (at eq (count_one eq pairs x) q) 0
      ≡ unwrap_or (at eq pairs q) 0 + cond (eq q x) 1 0
  count_more pairs x q laws =
      let alike : eq x q ≡ true → at eq pairs x ≡ at eq pairs q = at_alike eq x q pairs laws in
      grind (arith, at_put eq pairs x (unwrap_or (at eq pairs x) 0 + 1) q laws, alike, (of_lawful eq laws).symm x q)

  count_all : (pairs : List (K × ℕ)) (items : List K) (q : K) → Lawful eq → unwrap_or (at eq (fold (count_one eq) pairs items) q) 0
      ≡ unwrap_or (at eq pairs q) 0 + count_by (eq q) items
  count_all pairs [] q laws = omega arith
  count_all pairs (x ∷ items) q laws = grind (arith, common_steps, count_all (count_one eq pairs x) items q laws, count_more pairs x q laws)

  -- the keys are the items
  pub has_counts : (items : List K) (q : K) → Lawful eq → has eq (counts eq items) q ≡ list_any (eq q) items
  unfolding counts
  has_counts items q laws = is_some-lookup (eq q) (counts eq items)
      ∙ member-fold (of_lawful eq laws) (counts_keyed eq 0) [] items q ∙ ap (list_any (eq q)) (map-id items)

  -- the count of an item is the number of times it came
  pub count_counts : (items : List K) (q : K) → Lawful eq → unwrap_or (at eq (counts eq items) q) 0 ≡ count_by (eq q) items
  unfolding counts
  count_counts items q laws = count_all [] items q laws ∙ omega arith

  pub length_counts : (items : List K) → Lawful eq → length (counts eq items) ≡ distinct_count eq items
  unfolding counts
  length_counts items laws = sym (length-keys_of (counts eq items)) ∙ length-built (of_lawful eq laws) (counts_keyed eq 0) items

  counts_take : (items : List K) (i : ℕ) (d : K) → i < length items
      → counts eq (take (i + 1) items) ≡ count_one eq (counts eq (take i items)) (get_or items i d)
  unfolding counts
  counts_take = fold_more (count_one eq) []

  -- an item that isn't counted yet is one more than are counted
  counts_beyond : (items : List K) (i : ℕ) (d : K) → i < length items → Lawful eq
      → has eq (counts eq (take i items)) (get_or items i d) ≡ false → length (counts eq (take i items)) < distinct_count eq items
  unfolding counts
  counts_beyond items i d within laws new =
      let before = counts eq (take i items) in
      omega (
        arith,
        fold_beyond (of_lawful eq laws) (counts_keyed eq 0) [] items i d within (unique_empty ℕ eq)
            (sym (is_some-lookup (eq (get_or items i d)) before) ∙ new),
        length-keys_of before,
        length-keys_of (counts eq items),
        length_counts items laws,
      )

  -- what a search needs, at once: of a counter of some items, and of one of the first so many
  pub each_counts : (items : List K) → Lawful eq → Trigger (counts eq items) ((length (counts eq items) ≡ distinct_count eq items)
      × ((q : K) → unwrap_or (at eq (counts eq items) q) 0 ≡ count_by (eq q) items))
  each_counts items laws = (refl, (length_counts items laws, λ q. count_counts items q laws))

  pub each_counts_take : (items : List K) (i : ℕ) → Lawful eq → Trigger (counts eq (take i items))
      ((length items ≤ i → counts eq (take i items) ≡ counts eq items)
      × ((q : K) → unwrap_or (at eq (counts eq (take i items)) q) 0 ≤ length items) × ((d : K) → i < length items
      → counts eq (take (i + 1) items) ≡ count_one eq (counts eq (take i items)) (get_or items i d)) × ((d : K) → i < length items
      → has eq (counts eq (take i items)) (get_or items i d) ≡ false → length (counts eq (take i items)) < distinct_count eq items))
  each_counts_take items i laws = (
    refl,
    (
      λ over. ap (counts eq) (take_all i items over),
      λ q. omega (arith, count_counts (take i items) q laws, count_by-le-length (eq q) (take i items), length-take i items),
      counts_take items i,
      λ d within new. counts_beyond items i d within laws new,
    ),
  )

pub ruleset count_laws = (
  merged_none,
  merged_first,
  merged_beyond_first,
  merged_push,
  each_merged,
  each_merged_end,
  each_merged_take,
  each_merged_take_map,
  unique_empty,
  counts_none,
  each_counts,
  each_counts_take,
  each_put_all_take,
)
