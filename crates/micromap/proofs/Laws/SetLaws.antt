-- For callers: what each change of a set does to each way of reading it. `MapLaws` has the same for a map. The readers are
-- a test of the items (`any`, whether an item passes, and `find`, the first that does), a given item (`is_member`,
-- `find_item`, `fits`), the number of items (`length`), and that they are distinct (`unique`). The ruleset `caller`
-- of `Rules` has those that a search needs.
use Rattle.std.proofs.Common.{◌≡◌, ℕ, ◌+◌, ◌≤◌, ◌||◌, ◌&&◌, not, Bool, true, false, List, [], ◌∷◌, ◌++◌, filter, length}
use Rattle.std.proofs.Common.{Some, None, is_some, if◌then◌else◌, refl, ap, sym, subst, ◌∙◌, arith, option_map}
use Rattle.std.proofs.{Common.Bor, Common.bytes_eq, Common.unwrap_or, option.Match.None-if_not_some}
use Rattle.std.specs.List.{IsDistinct, find, list_all, list_any}
use Rattle.std.specs.Map.{keys_of, lookup, lookup_entry, remove_entry}
use Rattle.std.specs.Set.{is_member, remove_key}
use Rattle.std.proofs.lemmas.{Bool.Decides.nat_tests, Map.Entries.length-keys_of, Map.Made.is_some-lookup}
use Rattle.micromap_core.specs.{Equalities.Lawful, Equalities.Probes, Probe.is_str, Texts.str_eq}
use Rattle.micromap_core.specs.Pairs.{put, put_key, take_out, IsUnique}
use Rattle.micromap_core.proofs.Laws.Equalities.{equalities, of_lawful, probes_bytes, probes_key, probes_str, Trigger}
use Rattle.micromap_core.proofs.Laws.MapLaws.{lookup_put, lookup_put_key, lookup_take_out, pair_put, pair_put_key}
use Rattle.micromap_core.proofs.Laws.MapLaws.{pair_take_out, length_put, length_put_key, length_take_out, unique_put}
use Rattle.micromap_core.proofs.Laws.MapLaws.{unique_put_key, unique_take_out, take_out_missing, take_out_put, keys_take_out}
use Rattle.micromap_core.proofs.Laws.ProbedLaws.{keys_remove_entry, lookup_remove_entry}
use Rattle.micromap.specs.{SetStream.entries_of, Extend.put_all_items}
use Rattle.micromap.specs.Items.{put_item, replace_item, find_item, item_fits, take_item}
use Rattle.micromap.specs.Operations.{difference, intersection, symmetric_difference, union, Commutes}
use Rattle.micromap.proofs.Laws.SetStreamLemmas.{keys_of-entries}
use Rattle.micromap.proofs.Laws.ItemLemmas.{replace_item-keys, find-keys, take-keys, take_item-keys}
use Rattle.micromap.proofs.Laws.OperationLemmas.{is_member-difference, is_member-intersection, is_member-symmetric_difference}
use Rattle.micromap.proofs.Laws.OperationLemmas.{is_member-union, intersection_turned, length-union, symmetric_difference_turned}
use Rattle.micromap.proofs.Laws.OperationLemmas.{union_turned, within_is_member}
pub use Rattle.micromap.proofs.Laws.ItemLemmas.{keys_put_item}

length-entries : {T : Type 0} (items : List T) → length (entries_of items) ≡ length items
length-entries items = sym (length-keys_of (entries_of items)) ∙ ap length (keys_of-entries items)

any-entries : {T : Type 0} (test : T → Bool) (items : List T) → list_any test items ≡ is_some (lookup test (entries_of items))
any-entries test items = ap (list_any test) (sym (keys_of-entries items)) ∙ sym (is_some-lookup test (entries_of items))

find-entries : {T : Type 0} (test : T → Bool) (items : List T)
    → find test items ≡ option_map (λ e. e.0) (lookup_entry test (entries_of items))
find-entries test items = ap (find test) (sym (keys_of-entries items)) ∙ find-keys test (entries_of items)

-- what each word does to the pairs
module _ {T : Type 0} (eq : T → T → Bool) (items : List T) (x : T) where
  entries-put_item : put_item eq items x ≡ keys_of (put eq (entries_of items) x tt)
  entries-put_item = ap (λ l. put_item eq l x) (sym (keys_of-entries items)) ∙ sym (keys_put_item eq x tt (entries_of items))

  entries-replace_item : replace_item eq items x ≡ keys_of (put_key eq (entries_of items) x tt)
  entries-replace_item = ap (λ l. replace_item eq l x) (sym (keys_of-entries items)) ∙ replace_item-keys eq x tt (entries_of items)

  entries-take_item : take_item eq items x ≡ keys_of (take_out eq (entries_of items) x)
  entries-take_item = ap (λ l. take_item eq l x) (sym (keys_of-entries items)) ∙ take_item-keys eq (entries_of items) x

unique-entries : {T : Type 0} (eq : T → T → Bool) (items : List T) → IsDistinct eq items → IsUnique eq (entries_of items)
unique-entries eq items distinct = subst (IsDistinct eq) (sym (keys_of-entries items)) distinct

-- by a test: whether an item passes, and the first that does
module _ {T : Type 0} (eq : T → T → Bool) (test : T → Bool) (items : List T) (x : T) where
  pub any_put_item : Probes eq test → list_any test (put_item eq items x) ≡ (test x || list_any test items)
  any_put_item probes = grind (
    arith,
    entries-put_item eq items x,
    is_some-lookup test (put eq (entries_of items) x tt),
    lookup_put eq test (entries_of items) x tt probes,
    any-entries test items,
  )

  pub any_replace_item : Probes eq test → list_any test (replace_item eq items x) ≡ (test x || list_any test items)
  any_replace_item probes = grind (
    arith,
    entries-replace_item eq items x,
    is_some-lookup test (put_key eq (entries_of items) x tt),
    lookup_put_key eq test (entries_of items) x tt probes,
    any-entries test items,
  )

  pub any_take_item : Probes eq test → IsDistinct eq items → list_any test (take_item eq items x) ≡ (not (test x) && list_any test items)
  any_take_item probes distinct = grind (
    arith,
    entries-take_item eq items x,
    is_some-lookup test (take_out eq (entries_of items) x),
    lookup_take_out eq test (entries_of items) x probes (unique-entries eq items distinct),
    any-entries test items,
  )

  pub find_put_item : Probes eq test → find test (put_item eq items x)
      ≡ (if test x then Some (unwrap_or (find_item eq items x) x) else find test items)
  find_put_item probes = grind (
    arith,
    entries-put_item eq items x,
    find-keys test (put eq (entries_of items) x tt),
    pair_put eq test (entries_of items) x tt probes,
    find-entries (eq x) items,
    find-entries test items,
  )

  pub find_replace_item : Probes eq test → find test (replace_item eq items x) ≡ (if test x then Some x else find test items)
  find_replace_item probes = grind (
    arith,
    entries-replace_item eq items x,
    find-keys test (put_key eq (entries_of items) x tt),
    pair_put_key eq test (entries_of items) x tt probes,
    find-entries test items,
  )

  pub find_take_item : Probes eq test → IsDistinct eq items → find test (take_item eq items x) ≡ (if test x then None else find test items)
  find_take_item probes distinct = grind (
    arith,
    entries-take_item eq items x,
    find-keys test (take_out eq (entries_of items) x),
    pair_take_out eq test (entries_of items) x probes (unique-entries eq items distinct),
    find-entries test items,
  )

module _ {T : Type 0} (eq : T → T → Bool) (items : List T) (x : T) where
  -- how many items there are
  pub length_put_item : length (put_item eq items x) ≡ (if is_member eq items x then length items else length items + 1)
  length_put_item = grind (
    arith,
    entries-put_item eq items x,
    length-keys_of (put eq (entries_of items) x tt),
    length_put eq (entries_of items) x tt,
    any-entries (eq x) items,
    length-entries items,
  )

  pub length_replace_item : length (replace_item eq items x) ≡ (if is_member eq items x then length items else length items + 1)
  length_replace_item = grind (
    arith,
    entries-replace_item eq items x,
    length-keys_of (put_key eq (entries_of items) x tt),
    length_put_key eq (entries_of items) x tt,
    any-entries (eq x) items,
    length-entries items,
  )

  pub length_take_item : length (take_item eq items x) + (if is_member eq items x then 1 else 0) ≡ length items
  length_take_item = grind (
    arith,
    entries-take_item eq items x,
    length-keys_of (take_out eq (entries_of items) x),
    length_take_out eq (entries_of items) x,
    any-entries (eq x) items,
    length-entries items,
  )

  -- that they are distinct
  pub unique_put_item : Lawful eq → IsDistinct eq items → IsDistinct eq (put_item eq items x)
  unique_put_item laws distinct = subst (IsDistinct eq) (sym (entries-put_item eq items x))
      (unique_put eq (entries_of items) x tt laws (unique-entries eq items distinct))

  pub unique_replace_item : Lawful eq → IsDistinct eq items → IsDistinct eq (replace_item eq items x)
  unique_replace_item laws distinct = subst (IsDistinct eq) (sym (entries-replace_item eq items x))
      (unique_put_key eq (entries_of items) x tt laws (unique-entries eq items distinct))

  pub unique_take_item : Lawful eq → IsDistinct eq items → IsDistinct eq (take_item eq items x)
  unique_take_item laws distinct = subst (IsDistinct eq) (sym (entries-take_item eq items x))
      (unique_take_out eq (entries_of items) x laws (unique-entries eq items distinct))

  -- the items that a removal leaves stand in the order that they had
  pub items_take_item : Lawful eq → IsDistinct eq items → take_item eq items x ≡ filter (λ y. not (eq x y)) items
  items_take_item laws distinct = entries-take_item eq items x
      ∙ keys_take_out eq (entries_of items) x laws (unique-entries eq items distinct)
      ∙ ap (filter (λ y. not (eq x y))) (keys_of-entries items)

  -- what changes nothing: an item that is there is added, or one that isn't is taken out
  pub put_item_back : is_member eq items x ≡ true → put_item eq items x ≡ items
  unfolding put_item
  put_item_back stored = ap (λ b. if b then items else items ++ x ∷ []) stored

  pub take_item_missing : is_member eq items x ≡ false → take_item eq items x ≡ items
  take_item_missing missing = entries-take_item eq items x ∙ ap keys_of (take_out_missing eq (entries_of items) x
      (None-if_not_some _ (sym (any-entries (eq x) items) ∙ missing))) ∙ keys_of-entries items

  -- a new item goes last
  pub put_item_new : is_member eq items x ≡ false → put_item eq items x ≡ items ++ x ∷ []
  unfolding put_item
  put_item_new missing = ap (λ b. if b then items else items ++ x ∷ []) missing

  -- an item that doesn't fit is missing, and there is no room
  pub not_item_fits : (N : ℕ) → item_fits eq N items x ≡ false → (is_member eq items x ≡ false) × (N ≤ length items)
  not_item_fits N refused = (grind (arith, refused), grind (arith, nat_tests, refused))

  -- a new item that is put and removed again leaves the list as it was
  pub take_item_put_item : Lawful eq → is_member eq items x ≡ false → take_item eq (put_item eq items x) x ≡ items
  take_item_put_item laws missing = ap (λ l. take_item eq l x) (entries-put_item eq items x)
      ∙ take_item-keys eq (put eq (entries_of items) x tt) x ∙ ap keys_of (take_out_put eq (entries_of items) x tt laws
      (None-if_not_some _ (sym (any-entries (eq x) items) ∙ missing))) ∙ keys_of-entries items

  -- a removal by a probe that matches the items equal to an item
  pub take_item_key : Trigger (take_item eq items x) (take_item eq items x ≡ remove_key (eq x) items)
  unfolding take_item
  take_item_key = (refl, refl)

-- items that all pass a test, with one more that does
module _ {T : Type 0} (test : T → Bool) where
  all_push : (items : List T) (x : T) → list_all test items ≡ true → test x ≡ true → list_all test (items ++ x ∷ []) ≡ true
  all_push [] x all passes = grind (arith, passes)
  all_push (y ∷ items) x all passes = grind (arith, all, all_push items x, passes)

  pub all_put_item : (eq : T → T → Bool) (items : List T) (x : T) → list_all test items ≡ true
      → test x ≡ true → list_all test (put_item eq items x) ≡ true
  unfolding put_item
  all_put_item eq items x all passes = grind (arith, all, all_push items x all passes)

-- at an item of one's own
module _ {T : Type 0} (eq : T → T → Bool) (items : List T) (x y : T) where
  pub is_member_put_item : Lawful eq → is_member eq (put_item eq items x) y ≡ (eq x y || is_member eq items y)
  is_member_put_item laws = any_put_item eq (eq y) items x (probes_key eq y laws)
      ∙ ap (λ b. b || is_member eq items y) ((of_lawful eq laws).symm y x)

  pub is_member_replace_item : Lawful eq → is_member eq (replace_item eq items x) y ≡ (eq x y || is_member eq items y)
  is_member_replace_item laws = any_replace_item eq (eq y) items x (probes_key eq y laws)
      ∙ ap (λ b. b || is_member eq items y) ((of_lawful eq laws).symm y x)

  pub is_member_take_item : Lawful eq → IsDistinct eq items → is_member eq (take_item eq items x) y ≡ (not (eq x y) && is_member eq items y)
  is_member_take_item laws distinct = any_take_item eq (eq y) items x (probes_key eq y laws) distinct
      ∙ ap (λ b. not b && is_member eq items y) ((of_lawful eq laws).symm y x)

  pub find_item_replace_item : Lawful eq → find_item eq (replace_item eq items x) y ≡ (if eq x y then Some x else find_item eq items y)
  find_item_replace_item laws = find_replace_item eq (eq y) items x (probes_key eq y laws)
      ∙ ap (λ b. if b then Some x else find_item eq items y) ((of_lawful eq laws).symm y x)

-- after a list of items
module _ {T : Type 0} (eq : T → T → Bool) where
  pub any_put_all_items : (test : T → Bool) (items xs : List T) → Probes eq test
      → list_any test (put_all_items eq items xs) ≡ (list_any test xs || list_any test items)
  any_put_all_items test items [] probes = refl
  any_put_all_items test items (x ∷ xs) probes =
      grind (arith, any_put_all_items test (put_item eq items x) xs probes, any_put_item eq test items x probes)

  pub is_member_put_all_items : (items xs : List T) (y : T) → Lawful eq
      → is_member eq (put_all_items eq items xs) y ≡ (is_member eq xs y || is_member eq items y)
  is_member_put_all_items items xs y laws = any_put_all_items (eq y) items xs (probes_key eq y laws)

-- the calls by probe, said by its test
module _ {T : Type 0} (test : T → Bool) where
  pub length_remove_key : (items : List T) → length (remove_key test items) + (if list_any test items then 1 else 0) ≡ length items
  length_remove_key [] = refl
  length_remove_key (y ∷ items) = grind (arith, length_remove_key items)

  pub remove_key_missing : (items : List T) → list_any test items ≡ false → remove_key test items ≡ items
  remove_key_missing [] none = refl
  remove_key_missing (y ∷ items) none = grind (arith, none, remove_key_missing items)

  pub items_remove_key : (eq : T → T → Bool) (items : List T) → Probes eq test → IsDistinct eq items
      → remove_key test items ≡ filter (λ y. not (test y)) items
  items_remove_key eq items probes distinct = ap (remove_key test) (sym (keys_of-entries items)) ∙ take-keys test (entries_of items)
      ∙ keys_remove_entry test (entries_of items) eq probes (unique-entries eq items distinct)
      ∙ ap (filter (λ y. not (test y))) (keys_of-entries items)

  pub any_remove_key : (eq : T → T → Bool) (items : List T) → Probes eq test → IsDistinct eq items
      → list_any test (remove_key test items) ≡ false
  any_remove_key eq items probes distinct = ap (λ l. list_any test (remove_key test l)) (sym (keys_of-entries items))
      ∙ ap (list_any test) (take-keys test (entries_of items)) ∙ sym (is_some-lookup test (remove_entry test (entries_of items)))
      ∙ ap is_some (lookup_remove_entry test (entries_of items) eq probes (unique-entries eq items distinct))

-- `any_remove_key` of a text as `&str` and `TextBuf`, which a search finds from the words alone
module _ (bytes : List ℕ) where
  pub any_remove_str : (items : List (Bor (List ℕ))) → IsDistinct str_eq items
      → list_any (is_str bytes) (remove_key (is_str bytes) items) ≡ false
  any_remove_str items distinct = any_remove_key (is_str bytes) str_eq items (probes_str bytes) distinct

  pub any_remove_bytes : (items : List (List ℕ)) → IsDistinct bytes_eq items
      → list_any (bytes_eq bytes) (remove_key (bytes_eq bytes) items) ≡ false
  any_remove_bytes items distinct = any_remove_key (bytes_eq bytes) bytes_eq items (probes_bytes bytes) distinct

-- each item that a loop over a set comes to is in the set: so of what is left at the start, which is all
pub is_member_walked : {T : Type 0} (eq : T → T → Bool) (items left : List T) → left ≡ items
    → Lawful eq → list_all (is_member eq items) left ≡ true
is_member_walked eq items left all laws = ap (list_all (is_member eq items)) all
    ∙ within_is_member (of_lawful eq laws) items items (λ q there. there)

-- what each item finds, by the word alone: for a search that doesn't see the equality in what it computes to, nor that an
-- item of one's own equals itself
module _ {T : Type 0} (eq : T → T → Bool) (items : List T) (x : T) where
  pub each_put_item : Lawful eq → Trigger (put_item eq items x) ((is_member eq (put_item eq items x) x ≡ true)
      × ((y : T) → is_member eq (put_item eq items x) y ≡ (eq x y || is_member eq items y)))
  each_put_item laws = (
    refl,
    (
      is_member_put_item eq items x x laws ∙ ap (λ b. b || is_member eq items x) ((of_lawful eq laws).refl x),
      λ y. is_member_put_item eq items x y laws,
    ),
  )

  pub each_take_item : Lawful eq → IsDistinct eq items → Trigger (take_item eq items x) ((is_member eq (take_item eq items x) x ≡ false)
      × ((y : T) → is_member eq (take_item eq items x) y ≡ (not (eq x y) && is_member eq items y)))
  each_take_item laws distinct = (
    refl,
    (
      is_member_take_item eq items x x laws distinct ∙ ap (λ b. not b && is_member eq items x) ((of_lawful eq laws).refl x),
      λ y. is_member_take_item eq items x y laws distinct,
    ),
  )

module _ {T : Type 0} (eq : T → T → Bool) (xs ys : List T) where
  pub each_put_all_items : Lawful eq → Trigger (put_all_items eq xs ys) ((y : T) → is_member eq (put_all_items eq xs ys) y
      ≡ (is_member eq ys y || is_member eq xs y))
  each_put_all_items laws = (refl, λ y. is_member_put_all_items eq xs ys y laws)

  pub each_union : Lawful eq → Trigger (union eq xs ys)
      ((y : T) → is_member eq (union eq xs ys) y ≡ (is_member eq xs y || is_member eq ys y))
  each_union laws = (refl, is_member-union (of_lawful eq laws) xs ys)

  pub each_symmetric_difference : Lawful eq → Trigger (symmetric_difference eq xs ys)
      ((y : T) → is_member eq (symmetric_difference eq xs ys) y
      ≡ (if is_member eq xs y then not (is_member eq ys y) else is_member eq ys y))
  each_symmetric_difference laws = (refl, is_member-symmetric_difference (of_lawful eq laws) xs ys)

  pub each_difference : Lawful eq → Trigger (difference eq xs ys) ((y : T) → is_member eq (difference eq xs ys) y
      ≡ (is_member eq xs y && not (is_member eq ys y)))
  each_difference laws = (refl, is_member-difference (of_lawful eq laws) xs ys)

  pub each_intersection : Lawful eq → Trigger (intersection eq xs ys) ((y : T) → is_member eq (intersection eq xs ys) y
      ≡ (is_member eq xs y && is_member eq ys y))
  each_intersection laws = (refl, is_member-intersection (of_lawful eq laws) xs ys)

  -- turned round, an operation has equal members
  pub turned_union : Lawful eq → Commutes eq (union eq) xs ys
  turned_union laws = union_turned (of_lawful eq laws) xs ys

  pub turned_intersection : Lawful eq → Commutes eq (intersection eq) xs ys
  turned_intersection laws = intersection_turned (of_lawful eq laws) xs ys

  pub turned_symmetric_difference : Lawful eq → Commutes eq (symmetric_difference eq) xs ys
  turned_symmetric_difference laws = symmetric_difference_turned (of_lawful eq laws) xs ys

  -- union and intersection together have as many members as both lists
  pub length_union : Trigger (union eq xs ys) (length (union eq xs ys) + length (intersection eq xs ys) ≡ length xs + length ys)
  length_union = (refl, length-union eq xs ys)

pub ruleset set_laws = (
  put_item_new,
  not_item_fits,
  any_put_all_items,
  any_put_item,
  any_replace_item,
  any_take_item,
  find_put_item,
  find_replace_item,
  find_take_item,
  length_put_item,
  length_replace_item,
  length_take_item,
  items_take_item,
  unique_put_item,
  unique_replace_item,
  unique_take_item,
  put_item_back,
  take_item_missing,
  take_item_put_item,
  take_item_key,
  remove_key_missing,
  length_remove_key,
  items_remove_key,
  any_remove_key,
  any_remove_str,
  any_remove_bytes,
  each_put_item,
  each_take_item,
  each_put_all_items,
  each_union,
  each_symmetric_difference,
  each_difference,
  each_intersection,
  length_union,
  is_member_walked,
  equalities,
)
