-- For callers: what putting and taking out, by key or by text, does to the list that has the keys' bytes, and what is found
-- there. The laws with `bytes_of`, which shows a key's bytes, hold for `String` and for `&str`, and for any way `value_of` of seeing a
-- value: `key_texts` and `key_strs` show values as they are, `texts` and `strs` by their bytes. `ComparesBy bytes_of eq` says that
-- `eq x y ≡ bytes_eq (bytes_of x) (bytes_of y)` for all `x` and `y`. `stored_text` is of `TextBuf`. The ruleset `caller` of `Rules` has
-- those that a search needs.
use Rattle.std.proofs.Common.{◌≡◌, ℕ, [], ◌∷◌, ◌++◌, ◌∙◌, ap, arith, bytes_eq, codes, drop, filter, is_some, length, refl, slice_get, string_bytes, string_eq, subst}
use Rattle.std.proofs.Common.{sym, take, true, Bool, Bor, List, None, Option, Some, String}
use Rattle.std.specs.Fmt.{◌++?◌, comma_space, debug_items}
use Rattle.std.specs.{List.AllZip, List.IsDistinct, Option.option_map, Ordering.on}
use Rattle.std.specs.Map.{keys_of, lookup, lookup_entry, remove_entry, set_value}
use Rattle.std.proofs.lemmas.{Bool.false≢true, List.drop-map, List.length-map, List.map-append, Option.slice_get-map, Simd.map-map, Slice.Eq.bytes_eq-Decides}
use Rattle.micromap_core.specs.{Build.put_all, Clones.IsPairClone, Print.map_text, Print.pair_text, Print.set_text, Probe.is_str, Probe.is_text, Same.is_same}
use Rattle.micromap_core.specs.Pairs.{at, has, pair, put, take_out, IsUnique}
use Rattle.micromap_core.specs.Texts.{items_by, texts_by}
use Rattle.micromap_core.proofs.{Laws.Equalities.Trigger, Laws.MapLaws.pair_key, Laws.MapLaws.stored_key, Laws.MapLemmas.lookup-entry}
use Rattle.micromap_core.proofs.Laws.Views.{cloned-map, distinct-map, equal_items-map, filter-map, printed-map, take-map}

both_known : (a b : Option (List ℕ)) → is_some a ≡ true → is_some b ≡ true → is_some (a ++? b) ≡ true
both_known None b known also = absurd (false≢true known)
both_known (Some a) None known also = absurd (false≢true also)
both_known (Some a) (Some b) known also = refl

module _ {X : Type 0} (text : X → Option (List ℕ)) (known : (x : X) → is_some (text x) ≡ true) where
  items_known : (lead : List ℕ) (items : List X) → is_some (debug_items text lead items) ≡ true
  items_known lead [] = refl
  items_known lead (x ∷ items) = both_known (Some lead) _ refl (both_known (text x) _ (known x) (items_known comma_space items))

  set_text_known : (items : List X) → is_some (set_text text items) ≡ true
  set_text_known items = both_known (Some (codes "{")) _ refl (both_known _ (Some (codes "}")) (items_known [] items) refl)

module _ {K V : Type 0} (key_text : K → Option (List ℕ)) (value_text : V → Option (List ℕ)) (keys : (k : K) → is_some (key_text k) ≡ true)
    (values : (v : V) → is_some (value_text v) ≡ true) where
  -- what a map prints is known if the texts of its keys and of its values are
  pub map_text_known : (pairs : List (K × V)) → is_some (map_text key_text value_text pairs) ≡ true
  map_text_known = set_text_known (pair_text key_text value_text) (λ p. both_known (key_text p.0) _ (keys p.0)
      (both_known (Some (codes ": ")) _ refl (values p.1)))

-- by the word alone, for a search
pub each_map_text : {K V : Type 0} (key_text : K → Option (List ℕ)) (value_text : V → Option (List ℕ)) (pairs : List (K × V))
    → Trigger (map_text key_text value_text pairs) (((k : K) → is_some (key_text k) ≡ true) → ((v : V) → is_some (value_text v) ≡ true)
    → is_some (map_text key_text value_text pairs) ≡ true)
each_map_text key_text value_text pairs = (refl, λ keys values. map_text_known key_text value_text keys values pairs)

-- eq compares keys by the bytes that `bytes_of` shows, as `string_eq` does by `string_bytes`
abbrev pub ComparesBy : {K : Type 0} → (K → List ℕ) → (K → K → Bool) → Type 0
ComparesBy {K} bytes_of eq = (x y : K) → eq x y ≡ bytes_eq (bytes_of x) (bytes_of y)

-- such an equality is the comparison of the bytes
pub compares_by : {K : Type 0} (bytes_of : K → List ℕ) (eq : K → K → Bool) → ComparesBy bytes_of eq → eq ≡ on bytes_of bytes_eq
compares_by bytes_of eq compares = λ i x y. compares x y i

module _ {K V W : Type 0} (bytes_of : K → List ℕ) (value_of : V → W) where
  module _ (bs : List ℕ) where
    -- what a text finds
    pub at_texts : (pairs : List (K × V)) → at bytes_eq (texts_by bytes_of value_of pairs) bs
        ≡ option_map value_of (lookup (λ k. bytes_eq bs (bytes_of k)) pairs)
    unfolding texts_by
    at_texts [] = refl
    at_texts (e ∷ es) = grind (arith, at_texts es)

    pub pair_texts : (pairs : List (K × V)) → pair bytes_eq (texts_by bytes_of value_of pairs) bs
        ≡ option_map (λ (p : K × V). (bytes_of p.0, value_of p.1)) (lookup_entry (λ k. bytes_eq bs (bytes_of k)) pairs)
    unfolding texts_by
    pair_texts [] = refl
    pair_texts (e ∷ es) = grind (arith, pair_texts es)

    found : (pairs : List (K × V)) → has bytes_eq (texts_by bytes_of value_of pairs) bs
        ≡ is_some (lookup (λ k. bytes_eq bs (bytes_of k)) pairs)
    found pairs = grind (arith, at_texts pairs)

    -- a value written at the text that is there
    written : (pairs : List (K × V)) (w : V)
        → texts_by bytes_of value_of (set_value (λ k. bytes_eq bs (bytes_of k)) pairs w) ≡ set_value (bytes_eq bs)
        (texts_by bytes_of value_of pairs) (value_of w)
    unfolding texts_by
    written [] w = refl
    written (e ∷ es) w = grind (arith, written es w)

    put_matched : (pairs : List (K × V)) (w : V) → is_some (lookup (λ k. bytes_eq bs (bytes_of k)) pairs) ≡ true
        → texts_by bytes_of value_of (set_value (λ k. bytes_eq bs (bytes_of k)) pairs w)
        ≡ put bytes_eq (texts_by bytes_of value_of pairs) bs (value_of w)
    unfolding put
    put_matched pairs w there = grind (arith, written pairs w, found pairs, there)

    -- whether a probe finds a key is whether its text is there, and a value written where it does is put
    pub matched_texts : (pairs : List (K × V)) → Trigger (at bytes_eq (texts_by bytes_of value_of pairs) bs)
        ((is_some (lookup (λ k. bytes_eq bs (bytes_of k)) pairs) ≡ has bytes_eq (texts_by bytes_of value_of pairs) bs)
        × ((w : V) → is_some (lookup (λ k. bytes_eq bs (bytes_of k)) pairs) ≡ true
        → texts_by bytes_of value_of (set_value (λ k. bytes_eq bs (bytes_of k)) pairs w)
        ≡ put bytes_eq (texts_by bytes_of value_of pairs) bs (value_of w)))
    matched_texts pairs = (refl, (sym (found pairs), put_matched pairs))

    pub texts_take_out_matched : (pairs : List (K × V)) → take_out bytes_eq (texts_by bytes_of value_of pairs) bs
        ≡ texts_by bytes_of value_of (remove_entry (λ k. bytes_eq bs (bytes_of k)) pairs)
    unfolding texts_by take_out
    texts_take_out_matched [] = refl
    texts_take_out_matched (e ∷ es) = grind (arith, texts_take_out_matched es)

  module _ (k : K) where
    pushed : (pairs : List (K × V)) (v : V)
        → texts_by bytes_of value_of (pairs ++ (k, v) ∷ []) ≡ texts_by bytes_of value_of pairs ++ (bytes_of k, value_of v) ∷ []
    unfolding texts_by
    pushed pairs v = map-append (λ (p : K × V). (bytes_of p.0, value_of p.1)) pairs ((k, v) ∷ [])

    pub texts_put : (eq : K → K → Bool) (pairs : List (K × V)) (v : V) → ComparesBy bytes_of eq
        → texts_by bytes_of value_of (put eq pairs k v) ≡ put bytes_eq (texts_by bytes_of value_of pairs) (bytes_of k) (value_of v)
    unfolding put
    texts_put eq pairs v compares = ap (λ e. texts_by bytes_of value_of (put e pairs k v)) (compares_by bytes_of eq compares)
        ∙ grind (arith, written (bytes_of k) pairs v, pushed pairs v, found (bytes_of k) pairs)

    pub at_made_by : (pairs : List (K × V)) (bs : List ℕ) → bytes_of k ≡ bs → Trigger (at bytes_eq (texts_by bytes_of value_of pairs) bs)
        (option_map value_of (at (on bytes_of bytes_eq) pairs k) ≡ at bytes_eq (texts_by bytes_of value_of pairs) bs)
    at_made_by pairs bs is = (refl, sym (at_texts (bytes_of k) pairs) ∙ ap (at bytes_eq (texts_by bytes_of value_of pairs)) is)

  module _ (pairs : List (K × V)) where
    -- the keys
    pub keys_texts : keys_of (texts_by bytes_of value_of pairs) ≡ items_by bytes_of (keys_of pairs)
    unfolding texts_by items_by
    keys_texts = map-map _ _ pairs ∙ sym (map-map _ _ pairs)

    pub unique_texts : IsUnique (on bytes_of bytes_eq) pairs → IsUnique bytes_eq (texts_by bytes_of value_of pairs)
    unfolding items_by
    unique_texts unique = subst (IsDistinct bytes_eq) (sym keys_texts) (distinct-map bytes_of bytes_eq (keys_of pairs) unique)

    pub length_texts : length (texts_by bytes_of value_of pairs) ≡ length pairs
    unfolding texts_by
    length_texts = length-map pairs _

    -- the first or the last pair, and the others
    pub texts_slice_get : (i : ℕ) → slice_get (texts_by bytes_of value_of pairs) i
        ≡ option_map (λ (p : K × V). (bytes_of p.0, value_of p.1)) (slice_get pairs i)
    unfolding texts_by
    texts_slice_get i = slice_get-map _ pairs i

    pub texts_drop : (n : ℕ) → texts_by bytes_of value_of (drop n pairs) ≡ drop n (texts_by bytes_of value_of pairs)
    unfolding texts_by
    texts_drop n = sym (drop-map _ n pairs)

    -- by the number itself, which a search doesn't find in the law of each number
    pub texts_drop_first : texts_by bytes_of value_of (drop 1 pairs) ≡ drop 1 (texts_by bytes_of value_of pairs)
    texts_drop_first = texts_drop 1

    pub texts_take : (n : ℕ) → texts_by bytes_of value_of (take n pairs) ≡ take n (texts_by bytes_of value_of pairs)
    unfolding texts_by
    texts_take n = sym (take-map _ n pairs)

    -- the pairs that pass a test of their texts
    pub texts_filter : (test : List ℕ × W → Bool) → filter test (texts_by bytes_of value_of pairs)
        ≡ texts_by bytes_of value_of (filter (λ p. test (bytes_of p.0, value_of p.1)) pairs)
    unfolding texts_by
    texts_filter test = filter-map _ test pairs

    -- a clone of the map
    pub texts_cloned : (copy : List (K × V)) (C : K → K → Type 0) (D : V → V → Type 0) → AllZip (IsPairClone C D) pairs copy
        → ((x y : K) → C x y → bytes_of y ≡ bytes_of x) → ((v w : V) → D v w → value_of w ≡ value_of v)
        → texts_by bytes_of value_of copy ≡ texts_by bytes_of value_of pairs
    unfolding texts_by
    texts_cloned copy C D clones keys values = cloned-map _ (IsPairClone C D)
        (λ p q clone i. (keys p.0 q.0 clone.0 i, values p.1 q.1 clone.1 i)) pairs copy clones

  -- the pairs once these are put
  pub texts_put_all : (eq : K → K → Bool) (pairs items : List (K × V)) → ComparesBy bytes_of eq
      → texts_by bytes_of value_of (put_all eq pairs items) ≡ put_all bytes_eq (texts_by bytes_of value_of pairs)
      (texts_by bytes_of value_of items)
  unfolding texts_by
  texts_put_all eq pairs [] compares = refl
  texts_put_all eq pairs (e ∷ items) compares = texts_put_all eq (put eq pairs e.0 e.1) items compares
      ∙ ap (λ l. put_all bytes_eq l (texts_by bytes_of value_of items)) (texts_put e.0 eq pairs e.1 compares)

  -- what is put of texts is put of their pairs, so that a search finds what a map extended by another has
  pub extended_texts : (pairs items : List (K × V)) → put_all bytes_eq (texts_by bytes_of value_of pairs) (texts_by bytes_of value_of items)
      ≡ texts_by bytes_of value_of (put_all (on bytes_of bytes_eq) pairs items)
  extended_texts pairs items = sym (texts_put_all (on bytes_of bytes_eq) pairs items (λ x y. refl))

  -- no text at all
  pub texts_empty : texts_by bytes_of value_of [] ≡ []
  unfolding texts_by
  texts_empty = refl

-- which a search finds for a `String` as key
pub at_made : {Z V W : Type 0} (value_of : V → W) (k : String Z) (pairs : List (String Z × V)) (bs : List ℕ)
    → string_bytes k ≡ bs → Trigger (at bytes_eq (texts_by string_bytes value_of pairs) bs) (option_map value_of (at string_eq pairs k)
    ≡ at bytes_eq (texts_by string_bytes value_of pairs) bs)
at_made value_of k pairs bs is = at_made_by string_bytes value_of k pairs bs is

-- values as they are
module _ {K V : Type 0} (bytes_of : K → List ℕ) (pairs : List (K × V)) where
  pub at_key_texts : (bs : List ℕ) → at bytes_eq (texts_by bytes_of (λ v. v) pairs) bs ≡ lookup (λ k. bytes_eq bs (bytes_of k)) pairs
  at_key_texts bs = grind (arith, at_texts bytes_of (λ v. v) bs pairs)

  -- the pair that a text finds has that text as its key, and the value that the text finds
  matched : (bs : List ℕ) → Trigger (lookup_entry (λ k. bytes_eq bs (bytes_of k)) pairs)
      (((p : K × V) → lookup_entry (λ k. bytes_eq bs (bytes_of k)) pairs ≡ Some p → bytes_of p.0 ≡ bs)
      × (lookup (λ k. bytes_eq bs (bytes_of k)) pairs
      ≡ option_map (λ (e : K × V). e.1) (lookup_entry (λ k. bytes_eq bs (bytes_of k)) pairs)))
  matched bs = (
    refl,
    (
      λ p found. sym ((bytes_eq-Decides bs (bytes_of p.0)).0 (pair_key (λ k key. bytes_eq bs (bytes_of key)) pairs p.0 p found)),
      lookup-entry (λ k. bytes_eq bs (bytes_of k)) pairs,
    ),
  )

pub pair_matched : {Z V : Type 0} (bs : List ℕ) (pairs : List (String Z × V)) → Trigger (lookup_entry (is_text bs) pairs)
    (((p : String Z × V) → lookup_entry (is_text bs) pairs ≡ Some p → string_bytes p.0 ≡ bs) × (lookup (is_text bs) pairs
    ≡ option_map (λ (e : String Z × V). e.1) (lookup_entry (is_text bs) pairs)))
pair_matched bs pairs = matched string_bytes pairs bs

pub pair_matched_str : {V : Type 0} (bs : List ℕ) (pairs : List (Bor (List ℕ) × V)) → Trigger (lookup_entry (is_str bs) pairs)
    (((p : Bor (List ℕ) × V) → lookup_entry (is_str bs) pairs ≡ Some p → p.0.now ≡ bs) × (lookup (is_str bs) pairs
    ≡ option_map (λ (e : Bor (List ℕ) × V). e.1) (lookup_entry (is_str bs) pairs)))
pair_matched_str bs pairs = matched (λ s. s.now) pairs bs

-- two maps are the same exactly if their texts are, where the values are compared as `value_of` sees them
module _ {K V W : Type 0} (bytes_of : K → List ℕ) (value_of : V → W) (same : W → W → Bool) (a b : List (K × V)) where
  pub same_texts : is_same bytes_eq same (texts_by bytes_of value_of a)
      (texts_by bytes_of value_of b) ≡ is_same (on bytes_of bytes_eq) (λ v w. same (value_of v) (value_of w)) a b
  unfolding texts_by
  same_texts = equal_items-map (λ (p : K × V). (bytes_of p.0, value_of p.1)) _ a b

-- what is printed of texts: the text that a map prints is that of its texts, and is known if its values' texts are
module _ {K V W : Type 0} (bytes_of : K → List ℕ) (value_of : V → W) (value_text : W → Option (List ℕ)) (pairs : List (K × V)) where
  pub text_of_texts : (map_text (λ name. Some name) value_text (texts_by bytes_of value_of pairs)
      ≡ map_text (λ k. Some (bytes_of k)) (λ v. value_text (value_of v)) pairs) × (((v : V) → is_some (value_text (value_of v)) ≡ true)
      → is_some (map_text (λ k. Some (bytes_of k)) (λ v. value_text (value_of v)) pairs) ≡ true)
  unfolding texts_by
  text_of_texts = (
    ap (λ items. Some (codes "{") ++? items ++? Some (codes "}")) (printed-map _ (pair_text (λ name. Some name) value_text) [] pairs),
    λ known. map_text_known (λ k. Some (bytes_of k)) (λ v. value_text (value_of v)) (λ k. refl) known pairs,
  )

-- the key that an owned text finds is that text
pub stored_text : {V : Type 0} (pairs : List (List ℕ × V)) (text : List ℕ) → Trigger (pair bytes_eq pairs text)
    ((p : List ℕ × V) → pair bytes_eq pairs text ≡ Some p → p.0 ≡ text)
stored_text pairs text = (refl, stored_key bytes_eq (λ x y. (bytes_eq-Decides x y).0) pairs text)

pub ruleset text_laws = (
  each_map_text,
  texts_empty,
  at_key_texts,
  at_texts,
  pair_texts,
  pair_matched,
  pair_matched_str,
  stored_text,
  matched_texts,
  texts_take_out_matched,
  texts_put,
  at_made,
  at_made_by,
  unique_texts,
  length_texts,
  texts_slice_get,
  texts_drop,
  texts_drop_first,
  texts_take,
  texts_filter,
  texts_cloned,
  same_texts,
  text_of_texts,
)
