-- For callers: what putting, replacing and taking out an item does to the list of the texts' bytes, and what is found there.
-- The laws hold for `String` and for `&str`. `stored_item` is of `TextBuf`. The ruleset `caller` of `Rules` has those that a
-- search needs.
use Rattle.std.proofs.Common.{◌≡◌, ℕ, Bool, List, [], ◌∷◌, length, refl, ap, sym, ◌∙◌, arith, bytes_eq, option_map}
use Rattle.std.proofs.Common.{drop, filter, slice_get, take, Some, None, if◌then◌else◌}
use Rattle.std.specs.{List.AllZip, List.IsDistinct, List.find, List.list_any, Ordering.on, Set.is_member, Set.remove_key}
use Rattle.std.proofs.lemmas.{List.drop-map, List.length-map, List.map-append, Map.Made.find_same, Option.slice_get-map, Slice.Eq.bytes_eq-Decides}
use Rattle.micromap_core.specs.{Same.have_equal_items, Texts.items_by}
use Rattle.micromap_core.proofs.Laws.Views.{any-map, cloned-map, filter-map, take-map, distinct-map, equal_items-map, find-map}
use Rattle.micromap_core.proofs.Laws.Views.{remove_key-map}
use Rattle.micromap_core.proofs.{Laws.Equalities.equalities, Laws.Equalities.Trigger, Laws.TextLaws.compares_by, Laws.TextLaws.ComparesBy}
use Rattle.micromap.specs.{Extend.put_all_items, Items.put_item, Items.find_item, Items.take_item}
use Rattle.micromap.proofs.Laws.SetLaws.{length_put_item, put_item_back}

module _ {T : Type 0} (bytes_of : T → List ℕ) where
  pub item_texts_empty : items_by bytes_of [] ≡ []
  unfolding items_by
  item_texts_empty = refl

  module _ (items : List T) where
    pub length_item_texts : length (items_by bytes_of items) ≡ length items
    unfolding items_by
    length_item_texts = length-map items bytes_of

    pub unique_item_texts : IsDistinct (on bytes_of bytes_eq) items → IsDistinct bytes_eq (items_by bytes_of items)
    unfolding items_by
    unique_item_texts distinct = distinct-map bytes_of bytes_eq items distinct

    -- the first or the last item, and the others
    pub item_texts_slice_get : (i : ℕ) → slice_get (items_by bytes_of items) i ≡ option_map bytes_of (slice_get items i)
    unfolding items_by
    item_texts_slice_get i = slice_get-map bytes_of items i

    pub item_texts_drop : (n : ℕ) → items_by bytes_of (drop n items) ≡ drop n (items_by bytes_of items)
    unfolding items_by
    item_texts_drop n = sym (drop-map bytes_of n items)

    -- by the number itself, which a search doesn't find in the law of each number
    pub item_texts_drop_first : items_by bytes_of (drop 1 items) ≡ drop 1 (items_by bytes_of items)
    item_texts_drop_first = item_texts_drop 1

    pub item_texts_take : (n : ℕ) → items_by bytes_of (take n items) ≡ take n (items_by bytes_of items)
    unfolding items_by
    item_texts_take n = sym (take-map bytes_of n items)

    -- the items that pass a test of their texts
    pub item_texts_filter : (test : List ℕ → Bool) → filter test (items_by bytes_of items)
        ≡ items_by bytes_of (filter (λ x. test (bytes_of x)) items)
    unfolding items_by
    item_texts_filter test = filter-map bytes_of test items

    -- a clone of the set
    pub item_texts_cloned : (copy : List T) (C : T → T → Type 0) → AllZip C items copy
        → ((x y : T) → C x y → bytes_of y ≡ bytes_of x) → items_by bytes_of copy ≡ items_by bytes_of items
    unfolding items_by
    item_texts_cloned copy C clones each = cloned-map bytes_of C each items copy clones

    module _ (bs : List ℕ) where
      pub is_member_item_texts : is_member bytes_eq (items_by bytes_of items) bs ≡ list_any (λ x. bytes_eq bs (bytes_of x)) items
      unfolding items_by
      is_member_item_texts = any-map bytes_of (bytes_eq bs) items

      pub item_texts_remove_key : take_item bytes_eq (items_by bytes_of items) bs
          ≡ items_by bytes_of (remove_key (λ x. bytes_eq bs (bytes_of x)) items)
      unfolding items_by take_item
      item_texts_remove_key = sym (remove_key-map bytes_of (bytes_eq bs) items)

      -- the item that a probe finds, and whether it finds one
      pub find_item_item_texts : find_item bytes_eq (items_by bytes_of items) bs
          ≡ option_map bytes_of (find (λ x. bytes_eq bs (bytes_of x)) items)
      unfolding items_by
      find_item_item_texts = find-map bytes_of (bytes_eq bs) items

    module _ (eq : T → T → Bool) (x : T) where
      pub item_texts_put_item : ComparesBy bytes_of eq
          → items_by bytes_of (put_item eq items x) ≡ put_item bytes_eq (items_by bytes_of items) (bytes_of x)
      unfolding items_by put_item
      item_texts_put_item compares = ap (λ e. items_by bytes_of (put_item e items x)) (compares_by bytes_of eq compares)
          ∙ grind (arith, any-map bytes_of (bytes_eq (bytes_of x)) items, map-append bytes_of items (x ∷ []))

  -- two sets: they have equal items exactly if they have equal texts
  module _ (a b : List T) where
    pub same_item_texts : have_equal_items bytes_eq (items_by bytes_of a)
        (items_by bytes_of b) ≡ have_equal_items (on bytes_of bytes_eq) a b
    unfolding items_by
    same_item_texts = equal_items-map bytes_of bytes_eq a b

-- the items once these are put
module _ {T : Type 0} (bytes_of : T → List ℕ) where
  module _ (eq : T → T → Bool) where
    pub item_texts_put_all : (items xs : List T) → ComparesBy bytes_of eq
        → items_by bytes_of (put_all_items eq items xs) ≡ put_all_items bytes_eq (items_by bytes_of items) (items_by bytes_of xs)
    unfolding items_by
    item_texts_put_all items [] compares = refl
    item_texts_put_all items (x ∷ xs) compares = item_texts_put_all (put_item eq items x) xs compares
        ∙ ap (λ l. put_all_items bytes_eq l (items_by bytes_of xs)) (item_texts_put_item bytes_of items eq x compares)

  -- what is put of texts is put of their items, so that a search finds what a set extended by another has
  pub extended_item_texts : (items xs : List T) → put_all_items bytes_eq (items_by bytes_of items) (items_by bytes_of xs)
      ≡ items_by bytes_of (put_all_items (on bytes_of bytes_eq) items xs)
  extended_item_texts items xs = sym (item_texts_put_all (on bytes_of bytes_eq) items xs (λ x y. refl))

-- the item that an owned text finds is that text
pub stored_item : (items : List (List ℕ)) (text : List ℕ) → Trigger (find_item bytes_eq items text)
    (find_item bytes_eq items text ≡ (if is_member bytes_eq items text then Some text else None))
stored_item items text = (refl, find_same bytes_eq-Decides text items)

pub ruleset set_text_laws = (
  item_texts_empty,
  is_member_item_texts,
  unique_item_texts,
  length_item_texts,
  item_texts_slice_get,
  item_texts_drop,
  item_texts_drop_first,
  item_texts_take,
  item_texts_filter,
  item_texts_cloned,
  item_texts_put_item,
  item_texts_remove_key,
  find_item_item_texts,
  stored_item,
  same_item_texts,
  put_item_back,
  length_put_item,
  equalities,
)
