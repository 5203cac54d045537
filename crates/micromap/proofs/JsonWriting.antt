-- A loop that writes a map's pairs as the members of an object, or a set's items as the elements of an array.
use Rattle.std.proofs.Common.{◌≡◌, ℕ, ◌≤◌, Bool, false, List, [], ◌∷◌, ◌++◌, length, map, Some, option_map, Ok, String, Global}
use Rattle.std.proofs.Common.{string_bytes, ℤ, refl, ap, sym, subst, ◌∙◌, arith}
use Rattle.std.specs.{Cmp.Lexicographic.nat_list_eq_equiv, List.IsDistinct, List.list_any, Map.keys_of, String.string_eq}
use Rattle.std.specs.String.{string_eq_equiv}
use Rattle.std.proofs.lemmas.List.{append_assoc, append-nil, length_push, map-append, map_push}
use Rattle.std.proofs.lemmas.{List.Folds.list_any-append, List.Sums.fold_push}
use Rattle.serde_json.specs.Data.{Data, null, boolean, number, string, array, object, unsigned, negative, float, Members, no_members}
use Rattle.serde_json.specs.Data.{member, depth, items_depth, members_depth, put}
use Rattle.serde_json.specs.{Find.of_integer, Read.read, Read.max_depth, View.view, View.items_of, View.items_view}
use Rattle.serde_json.specs.Written.{compact_text, has_float, items_have_float, members_have_float}
use Rattle.serde_json.specs.declared.value.Value.{Value}
use Rattle.micromap.specs.Json.{Bytes, HasPairs, Pairs, all_texts, elements, members, texts_for, whole_number, whole_members}
use Rattle.micromap_core.specs.Texts.{item_texts, items_by, key_texts, texts_by}
use Rattle.micromap_core.proofs.Laws.DistinctLemmas.{new_behind}
use Rattle.micromap_walk.proofs.Laws.Walked.{walk_goes_on, walk_seam, Walked}
use Rattle.micromap.proofs.{Laws.AddedItems.added_all, Laws.SetTextLaws.length_item_texts, Laws.SetTextLaws.unique_item_texts}
use Rattle.micromap.proofs.JsonReading.{few}
use Rattle.micromap.proofs.Laws.JsonLemmas.{insert, Lacks, any-insert, length-insert, any-names, same_items}

module _ (k : Bytes) (d : Data) (n : ℤ) (is : whole_number d ≡ Some n) where
  whole-put : (ms : Members) (ps : List (Bytes × ℤ)) → whole_members ms ≡ Some ps → whole_members (put k d ms) ≡ Some (insert ps k n)
  whole-put no_members ps whole = grind (arith, whole, is)
  whole-put (member l e ms) ps whole = grind (arith, whole, is, whole-put ms)

-- a whole number has nothing in it, and is no float
whole-flat : (d : Data) (n : ℤ) → whole_number d ≡ Some n → (depth d ≡ 0) × (has_float d ≡ false)
whole-flat null n is = absurd (cc)
whole-flat (boolean b) n is = absurd (cc)
whole-flat (number (unsigned m)) n is = (refl, refl)
whole-flat (number (negative m)) n is = (refl, refl)
whole-flat (number (float x)) n is = absurd (cc)
whole-flat (string s) n is = absurd (cc)
whole-flat (array ds) n is = absurd (cc)
whole-flat (object ms) n is = absurd (cc)

members-flat : (ms : Members) (ps : List (Bytes × ℤ)) → whole_members ms ≡ Some ps
    → (members_depth ms ≡ 0) × (members_have_float ms ≡ false)
members-flat no_members ps whole = (refl, refl)
members-flat (member k d ms) ps whole = grind (arith, whole, whole-flat d, members-flat ms)

-- the members of these pairs
pub record HasWritten (ms : Members) (before : Pairs) : Type 0 where
  pub pairs : List (Bytes × ℤ)
  pub whole : whole_members ms ≡ Some pairs
  pub made : ms ≡ members before
  pub alike : (test : Bytes × ℤ → Bool) → list_any test pairs ≡ list_any test (key_texts before)
  pub count : length pairs ≡ length before

pub none_written : HasWritten no_members []
unfolding texts_by
none_written = record { pairs = []; whole = refl; made = refl; alike = λ test. refl; count = refl }

-- one more
pub writes_one : {ms after : Members} {rest later all : Pairs} {k : String Global} {n : ℤ} (d : Data)
    → Walked all rest (HasWritten ms) → IsDistinct string_eq (keys_of all) → rest ≡ (k, n) ∷ later
    → d ≡ number (of_integer n) → whole_number d ≡ Some n → after ≡ put (string_bytes k) d ms → Walked all later (HasWritten after)
unfolding texts_by
writes_one {ms} {after} {rest} {later} {all} {k} {n} d walked distinct next seen is made =
    let before = walked.before in
    let has = walked.holds in
    let seam : keys_of all ≡ keys_of before ++ k ∷ keys_of later = ap keys_of (walk_seam walked next)
    ∙ map-append (λ p. p.0) before ((k, n) ∷ later) in
    let new : Lacks has.pairs (string_bytes k) = has.alike _ ∙ any-names k before
    ∙ new_behind string_eq_equiv (keys_of before) k (keys_of later) (subst (IsDistinct string_eq) seam distinct) in
    walk_goes_on walked next (record {
      pairs = insert has.pairs (string_bytes k) n;
      whole = ap whole_members made ∙ whole-put (string_bytes k) d n is ms has.pairs has.whole;
      made = made ∙ (λ i. put (string_bytes k) (seen i) (has.made i)) ∙ sym (fold_push _ no_members before (k, n));
      alike = λ test. any-insert test has.pairs (string_bytes k) n new ∙ grind (
        arith,
        has.alike test,
        map_push {Y = Bytes × ℤ} (λ p. (string_bytes p.0, p.1)) before (k, n),
        list_any-append test (key_texts before) ((string_bytes k, n) ∷ []),
      );
      count = omega (arith, has.count, length-insert has.pairs (string_bytes k) n new, length_push before (k, n));
    })

module _ {ms : Members} {all : Pairs} (text : Bytes) (has : HasWritten ms all) where
  flat : (members_depth ms ≡ 0) × (members_have_float ms ≡ false)
  flat = members-flat ms has.pairs has.whole

  -- the text of these members has the pairs, for any capacity that holds them
  pub written : (depth (object ms) ≤ max_depth → read text ≡ Some (object ms)) → (M : ℕ) → length all ≤ M → HasPairs M text all
  written reads_back M short = (
    has.pairs,
    rw (reads_back (rw flat.0 (omega arith)), has.whole) (few M has.pairs (omega (arith, has.count, short))),
    same_items has.pairs (key_texts all) (λ test. sym (has.alike test)),
  )

  -- and is that of all pairs' members
  pub written_text : (has_float (object ms) ≡ false → text ≡ compact_text (object ms)) → text ≡ compact_text (object (members all))
  written_text is = is flat.1 ∙ ap (λ ms. compact_text (object ms)) has.made

-- a set's items as the elements of an array
abbrev pub as_data : List (String Global) → List Data
as_data items = map (λ s. string (string_bytes s)) items

-- one more element
pub pushes_one : (vs new : List Value) (v : Value) (x : String Global)
    (rest later all : List (String Global)) → map view vs ++ as_data rest ≡ as_data all
    → rest ≡ x ∷ later → view v ≡ string (string_bytes x) → new ≡ vs ++ v ∷ [] → map view new ++ as_data later ≡ as_data all
pushes_one vs new v x rest later all has first is made = ap (λ ws. map view ws ++ as_data later) made
    ∙ ap (λ ds. ds ++ as_data later) (map_push view vs v) ∙ append_assoc (map view vs) (view v ∷ []) (as_data later)
    ∙ (λ i. map view vs ++ is i ∷ as_data later) ∙ sym (ap (λ r. map view vs ++ as_data r) first) ∙ has

texts-elements : (items : List (String Global)) → all_texts (elements items) ≡ Some (item_texts items)
unfolding items_by
texts-elements [] = refl
texts-elements (x ∷ items) = ap (option_map (λ texts. string_bytes x ∷ texts)) (texts-elements items)

depth-elements : (items : List (String Global)) → items_depth (elements items) ≡ 0
depth-elements [] = refl
depth-elements (x ∷ items) = rw (depth-elements items) refl

float-elements : (items : List (String Global)) → items_have_float (elements items) ≡ false
float-elements [] = refl
float-elements (x ∷ items) = float-elements items

-- the text of these elements is that of the array of all items' texts, and is read as the same items in any capacity
-- that holds them
pub elements_written : (vs : List Value) (items : List (String Global)) (text : Bytes) → map view vs ++ [] ≡ as_data items
    → (depth (array (items_view vs)) ≤ max_depth → read text ≡ Some (array (items_view vs)))
    → (has_float (array (items_view vs)) ≡ false → text ≡ compact_text (array (items_view vs))) → IsDistinct string_eq items
    → (read text ≡ Some (array (elements items))) × (text ≡ compact_text (array (elements items)))
    × ((M : ℕ) → length items ≤ M → texts_for M text ≡ Ok (item_texts items))
elements_written vs items text all reads_back writes distinct =
    let are : items_view vs ≡ elements items = ap items_of (sym (append-nil (map view vs)) ∙ all) in
    let flat : items_depth (items_view vs) ≡ 0 = ap items_depth are ∙ depth-elements items in
    let reads : read text ≡ Some (array (elements items)) = reads_back (rw flat (omega arith)) ∙ ap (λ ds. Some (array ds)) are in (
      reads,
      writes (ap items_have_float are ∙ float-elements items) ∙ ap (λ ds. compact_text (array ds)) are,
      λ M short. rw (
        reads,
        texts-elements items,
        added_all nat_list_eq_equiv (item_texts items) (unique_item_texts string_bytes items distinct),
      ) (few M (item_texts items) (omega (arith, short, length_item_texts string_bytes items))),
    )
