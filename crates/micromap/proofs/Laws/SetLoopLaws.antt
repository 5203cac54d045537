-- For callers: loops that build a set, or put its items into another; that a set has one item for each distinct item that
-- was put, as `CountLaws` says of a map's keys; and that the keys of a map into which a loop merges values are the items
-- of a set to which the same keys are added. The rulesets `loops` and `caller` of `Rules` have what a search needs.
use Rattle.std.proofs.Common.{◌≡◌, ◌≤◌, Bool, false, not, List, [], ◌∷◌, ◌++◌, filter, length, refl, ap, sym, ◌∙◌}
use Rattle.std.proofs.Common.{append_assoc, arith, append-nil, inl, inr, true, ℕ, ◌+◌, ◌<◌, map, get_or, take, subst, Option}
use Rattle.std.specs.List.{AllByRecursion, IsDistinct, list_all, list_any}
use Rattle.std.specs.{Map.keys_of, Set.is_member, Set.distinct_count}
use Rattle.std.proofs.lemmas.List.{length-append, map-id, take_all}
use Rattle.std.proofs.lemmas.{List.Sums.fold_more, Bool.cases_Bool, Bool.false≢true, Map.Entries.length-keys_of, Map.Made.is_some-lookup}
use Rattle.std.proofs.lemmas.Map.Keys.{IsDistinct-head, IsDistinct-tail}
use Rattle.micromap_core.specs.{Build.merge_pair, Build.merged, Equalities.Lawful, Pairs.at, Pairs.has}
use Rattle.micromap_core.proofs.{Laws.DistinctLemmas.IsDistinct-nil, Laws.Lists.all_read, Laws.Lists.taken_read, Laws.LoopLaws.each_left}
use Rattle.micromap_core.proofs.Laws.KeyedLemmas.{fold_beyond, length-built, length-fold, member-fold}
use Rattle.micromap_core.proofs.Laws.SublistLaws.{IsDistinct-filter}
use Rattle.micromap_core.proofs.Laws.DistinctLemmas.{missing_in_shorter, new_behind}
use Rattle.micromap_core.proofs.Laws.Equalities.{equalities, of_lawful, Trigger}
use Rattle.micromap.specs.{Extend.put_all_items, Extend.distinct, Items.item_fits, Items.put_item, Items.take_item}
use Rattle.micromap.specs.Operations.{difference, union}
use Rattle.micromap.proofs.{Laws.ExtendLemmas.items_keyed, Laws.ItemLemmas.keys_put_item}
use Rattle.micromap.proofs.Laws.SetLaws.{is_member_put_item, items_take_item, length_put_item, not_item_fits}
use Rattle.micromap.proofs.Laws.SetLaws.{all_put_item, put_item_back, put_item_new, unique_put_item}
pub use Rattle.micromap.proofs.Laws.ItemLemmas.{keys_put_all_items}

module _ {T : Type 0} (eq : T → T → Bool) where
  -- items that are done and items that are left: a new one goes between them
  pub put_item_first_of_rest : (done rest : List T) (x : T) → is_member eq done x ≡ false → put_item eq done x ++ rest ≡ done ++ x ∷ rest
  put_item_first_of_rest done rest x missing = ap (λ l. l ++ rest) (put_item_new eq done x missing) ∙ append_assoc done (x ∷ []) rest

  pub copied_item_next : (done rest : List T) (x : T) → Lawful eq → IsDistinct eq (done ++ x ∷ rest)
      → put_item eq done x ++ rest ≡ done ++ x ∷ rest
  copied_item_next done rest x laws distinct = put_item_first_of_rest done rest x (new_behind (of_lawful eq laws) done x rest distinct)

  -- a list of items that is put takes none away
  pub length_le_put_all_items : (items xs : List T) → length items ≤ length (put_all_items eq items xs)
  length_le_put_all_items items [] = omega arith
  length_le_put_all_items items (x ∷ xs) = grind (arith, length_put_item eq items x, length_le_put_all_items (put_item eq items x) xs)

  -- of items that differ from x the same are new with x there
  new_apart : (xs ys : List T) (x : T) → Lawful eq → AllByRecursion (λ y. eq x y ≡ false) ys
      → difference eq ys (put_item eq xs x) ≡ difference eq ys xs
  new_apart xs [] x laws apart = refl
  new_apart xs (y ∷ ys) x laws apart = let here = apart.0 in
      grind (arith, here, new_apart xs ys x laws apart.1, is_member_put_item eq xs x y laws)

  -- distinct items that are put are a union
  pub put_all_items_union : (xs ys : List T) → Lawful eq → IsDistinct eq ys → put_all_items eq xs ys ≡ union eq ys xs
  unfolding union
  put_all_items_union xs [] laws distinct = sym (append-nil xs)
  put_all_items_union xs (y ∷ ys) laws distinct =
      let next = put_all_items_union (put_item eq xs y) ys laws (IsDistinct-tail eq y ys distinct) in
      let apart = new_apart xs ys y laws (IsDistinct-head eq y ys distinct) in
      grind (arith, next, apart, put_item_back eq xs y, put_item_first_of_rest xs (difference eq ys xs) y)

  -- an item that is taken out is one that a difference leaves out
  left_out : (xs ys : List T) (x : T) → Lawful eq → difference eq (filter (λ y. not (eq x y)) xs) ys ≡ difference eq xs (x ∷ ys)
  left_out [] ys x laws = refl
  left_out (z ∷ xs) ys x laws = grind (arith, left_out xs ys x laws, (of_lawful eq laws).symm x z)

  pub difference_take_item : (xs ys : List T) (x : T) → Lawful eq → IsDistinct eq xs
      → difference eq (take_item eq xs x) ys ≡ difference eq xs (x ∷ ys)
  difference_take_item xs ys x laws distinct = ap (λ l. difference eq l ys) (items_take_item eq xs x laws distinct) ∙ left_out xs ys x laws

  pub difference_none : (xs : List T) → difference eq xs [] ≡ xs
  difference_none [] = refl
  difference_none (x ∷ xs) = ap (λ l. x ∷ l) (difference_none xs)

pub ruleset set_loop_laws = (
  keys_put_item,
  keys_put_all_items,
  length-keys_of,
  copied_item_next,
  IsDistinct-filter,
  not_item_fits,
  length_put_item,
  length_le_put_all_items,
  put_all_items_union,
  difference_take_item,
  difference_none,
  each_left,
  length-append,
  equalities,
)

module _ {T : Type 0} (eq : T → T → Bool) where
  -- after items are put
  pub length_put_all_items : (items xs : List T) → Lawful eq → IsDistinct eq items
      → length (put_all_items eq items xs) ≡ distinct_count eq (items ++ xs)
  length_put_all_items items xs laws unique = length-fold (of_lawful eq laws) (items_keyed eq 0) items xs unique
      ∙ ap (λ l. distinct_count eq (items ++ l)) (map-id xs)

  -- a set that is built of a list has its distinct items
  length_distinct : (xs : List T) → Lawful eq → length (distinct eq xs) ≡ distinct_count eq xs
  length_distinct xs laws = length-built (of_lawful eq laws) (items_keyed eq 0) xs

  is_member_distinct : (xs : List T) (x : T) → Lawful eq → is_member eq (distinct eq xs) x ≡ list_any (eq x) xs
  is_member_distinct xs x laws = member-fold (of_lawful eq laws) (items_keyed eq 0) [] xs x ∙ ap (list_any (eq x)) (map-id xs)

  -- what a search needs, at once: of a set that is built of a list, and of its first so many
  pub each_distinct : (xs : List T) → Lawful eq → Trigger (distinct eq xs) ((length (distinct eq xs) ≡ distinct_count eq xs)
      × ((x : T) → is_member eq (distinct eq xs) x ≡ list_any (eq x) xs))
  each_distinct xs laws = (refl, (length_distinct xs laws, λ x. is_member_distinct xs x laws))

  pub each_distinct_take : (xs : List T) (i : ℕ) → Lawful eq
      → Trigger (distinct eq (take i xs)) ((length xs ≤ i → distinct eq (take i xs) ≡ distinct eq xs) × ((d : T) → i < length xs
      → distinct eq (take (i + 1) xs) ≡ put_item eq (distinct eq (take i xs)) (get_or xs i d))
      × ((d : T) → i < length xs → is_member eq (distinct eq (take i xs)) (get_or xs i d) ≡ false
      → length (distinct eq (take i xs)) < distinct_count eq xs))
  each_distinct_take xs i laws = (
    refl,
    (
      λ over. ap (distinct eq) (take_all i xs over),
      fold_more (put_item eq) [] xs i,
      λ d within new. subst (λ n. length (distinct eq (take i xs)) < n) (length_distinct xs laws)
          (fold_beyond (of_lawful eq laws) (items_keyed eq 0) [] xs i d within (IsDistinct-nil eq) new),
    ),
  )

  -- of a set that is built of the first so many items that a function reads
  pub each_distinct_take_map : {X : Type 0} (read : X → T) (xs : List X) (i : ℕ) → Lawful eq → Trigger (distinct eq (map read (take i xs)))
      ((length xs ≤ i → distinct eq (map read (take i xs)) ≡ distinct eq (map read xs)) × ((d : X) → i < length xs
      → distinct eq (map read (take (i + 1) xs)) ≡ put_item eq (distinct eq (map read (take i xs))) (read (get_or xs i d)))
      × ((d : X) → i < length xs → is_member eq (distinct eq (map read (take i xs))) (read (get_or xs i d)) ≡ false
      → length (distinct eq (map read (take i xs))) < distinct_count eq (map read xs)))
  each_distinct_take_map read xs i laws =
      let all = each_distinct_take (map read xs) i laws in (
        refl,
        (
          all_read read xs i (λ l. distinct eq l ≡ distinct eq (map read xs)) all.1.0,
          taken_read read xs i (λ first more x. distinct eq more ≡ put_item eq (distinct eq first) x) all.1.1,
          taken_read read xs i (λ first more x. is_member eq (distinct eq first) x ≡ false
              → length (distinct eq first) < distinct_count eq (map read xs)) all.1.2,
        ),
      )

-- a set whose items are all in a list has room for each item of the list, if it has room for as many as the list has
module _ {T : Type 0} (eq : T → T → Bool) (whole items : List T) where
  fits_there : Lawful eq → IsDistinct eq items → list_all (is_member eq whole) items ≡ true → (N : ℕ) (x : T)
      → length whole ≤ N → is_member eq whole x ≡ true → item_fits eq N items x ≡ true
  fits_there laws unique all N x room there = elim (cases_Bool (item_fits eq N items x)) [
    | inl fits ↦ fits
    | inr refused ↦
        let apart = not_item_fits eq items x N refused in
        let long = length_put_item eq items x in
        let short = missing_in_shorter (of_lawful eq laws) (put_item eq items x) whole
        (unique_put_item eq items x laws unique) (grind (arith, apart.0, apart.1, long, room)) in
        absurd (false≢true (sym short ∙ all_put_item (is_member eq whole) eq items x all there))
  ]

  pub fits_within : Lawful eq → IsDistinct eq items → Trigger (list_all (is_member eq whole) items)
      (list_all (is_member eq whole) items ≡ true → (N : ℕ) (x : T)
      → length whole ≤ N → is_member eq whole x ≡ true → item_fits eq N items x ≡ true)
  fits_within laws unique = (refl, fits_there laws unique)

-- so has a set of keys of a map, as the nodes that a search has seen
pub fits_among : {K V : Type 0} (eq : K → K → Bool) (pairs : List (K × V)) (items : List K) → Lawful eq → IsDistinct eq items
    → Trigger (list_all (has eq pairs) items) (list_all (has eq pairs) items ≡ true → (N : ℕ) (x : K)
    → length pairs ≤ N → has eq pairs x ≡ true → item_fits eq N items x ≡ true)
fits_among {K = K} eq pairs items laws unique =
    let keyed : (x : K) → has eq pairs x ≡ is_member eq (keys_of pairs) x = λ x. is_some-lookup (eq x) pairs in (
      refl,
      λ all N x room there. fits_there eq (keys_of pairs) items laws unique
          (ap (λ test. list_all test items) (λ i x. sym (keyed x) i) ∙ all) N x
          (subst (λ n. n ≤ N) (sym (length-keys_of pairs)) room) (sym (keyed x) ∙ there),
    )

module _ {K V W : Type 0} (eq : K → K → Bool) (step : Option V → W → V) where
  pub keys_merged : (pairs : List (K × V)) (items : List (K × W))
      → keys_of (merged eq step pairs items) ≡ put_all_items eq (keys_of pairs) (keys_of items)
  unfolding merged
  keys_merged pairs [] = refl
  keys_merged pairs (item ∷ items) = keys_merged (merge_pair eq step pairs item) items ∙ ap (λ keys. put_all_items eq keys (keys_of items))
      (keys_put_item eq item.0 (step (at eq pairs item.0) item.1) pairs)

pub ruleset item_counts = (
  each_distinct,
  each_distinct_take,
  each_distinct_take_map,
  keys_merged,
  all_put_item,
  fits_within,
  fits_among,
)
