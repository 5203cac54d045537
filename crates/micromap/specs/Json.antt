-- What `serde_json` reads in a text: an object's pairs for a map, an array's texts for a set, or the first fault.
use Rattle.std.specs.Prelude.{◌≡◌, ◌⊎◌, codes, ℕ, ◌^◌, ℤ, List, [], ◌∷◌, length, map, nat_eq, nat_lt, if◌then◌else◌, Option, Some, None, option_map, option_and_then, ok_or, Result, Ok, Err, String, string_bytes, bytes_eq, fold, is_ok, negsuc, pos, refl}
use Rattle.std.specs.Ordering.{int_eq}
use Rattle.std.specs.declared.alloc.Global.{Global}
use Rattle.serde_json.specs.Data.{Data, Items, no_items, item, Members, no_members, member, number, put, string}
use Rattle.serde_json.specs.Find.{as_array, as_i64, as_number, as_object, as_str, of_integer}
use Rattle.serde_json.specs.Read.{read}
use Rattle.serde_json.specs.View.{items_of}
use Rattle.std.proofs.Common.{ap, inl, inr, true≢false}
use Rattle.micromap.specs.Extend.{distinct}
use Rattle.micromap.specs.Items.{put_item}
use Rattle.micromap.specs.declared.json.JsonFault.{JsonFault}
use Rattle.micromap.specs.declared.json.JsonFault.TheVariants.{BadText, NotObject, NotArray, NotWhole, NotText, TooMany, Memory}
use Rattle.micromap_core.specs.Same.{Same}
use Rattle.micromap_core.specs.Texts.{key_texts}

-- a fault's number
abbrev pub code : JsonFault → ℕ
code BadText = 1
code NotObject = 2
code NotArray = 3
code NotWhole = 4
code NotText = 5
code TooMany = 6
code Memory = 7

code-not_whole : code NotWhole ≡ 4
code-not_whole = refl

-- what a fault prints
abbrev pub message : JsonFault → List ℕ
message BadText = codes "the text is not JSON"
message NotObject = codes "the text is not an object"
message NotArray = codes "the text is not an array"
message NotWhole = codes "a value is not a whole number of 64 bits"
message NotText = codes "an element is not a text"
message TooMany = codes "there are more distinct texts than there is room for"
message Memory = codes "a request for memory was refused"

message-bad_text : message BadText ≡ codes "the text is not JSON"
message-bad_text = refl

-- a text, as its bytes
abbrev pub Bytes : Type 0
Bytes = List ℕ

-- the content of a map of texts to whole numbers
abbrev pub Pairs : Type 0
Pairs = List (String Global × ℤ)

-- the step after, unless there was a fault
abbrev pub and_then : {A B : Type 0} → Result A JsonFault → (A → Result B JsonFault) → Result B JsonFault
and_then (Ok x) step = step x
and_then (Err fault) step = Err fault

-- a value as a whole number that an `i64` holds
abbrev pub whole_number : Data → Option ℤ
whole_number value = option_and_then as_i64 (as_number value)

-- of -1, of one more than an `i64` holds, and of a text
whole_number-minus_one : whole_number (number (of_integer (negsuc 0))) ≡ Some (negsuc 0)
whole_number-minus_one = refl

whole_number-past : whole_number (number (of_integer (pos (2 ^ 63)))) ≡ None
whole_number-past = refl

whole_number-text : whole_number (string (codes "x")) ≡ None
whole_number-text = refl

-- the members' names with their values, where each is whole
abbrev pub whole_members : Members → Option (List (Bytes × ℤ))
whole_members no_members = Some []
whole_members (member name value members) = option_and_then (λ n. option_map (λ pairs. (name, n) ∷ pairs) (whole_members members)) (whole_number value)

-- the elements, where each is a text
abbrev pub all_texts : Items → Option (List Bytes)
all_texts no_items = Some []
all_texts (item value items) = option_and_then (λ text. option_map (λ texts. text ∷ texts) (all_texts items)) (as_str value)

-- no more than N of them
abbrev pub items_for : {X : Type 0} → ℕ → List X → Result (List X) JsonFault
items_for N xs = if nat_lt N (length xs) then Err TooMany else Ok xs

-- two of them, for two and for one
items_for-two : items_for {X = ℕ} 2 (5 ∷ 6 ∷ []) ≡ Ok (5 ∷ 6 ∷ [])
items_for-two = refl

items_for-too_many : items_for {X = ℕ} 1 (5 ∷ 6 ∷ []) ≡ Err TooMany
items_for-too_many = refl

-- an object's members as the pairs of a map of capacity N; its names are distinct
abbrev pub pairs_in : ℕ → Members → Result (List (Bytes × ℤ)) JsonFault
pairs_in N members = and_then (ok_or (whole_members members) NotWhole) (items_for N)

-- `{"a": 1, "b": 2}` for two and for one, and `{"a": "x", "b": 1}` for one: the value is looked at before the number of members
pairs_in-two : pairs_in 2 (member (codes "a") (number (of_integer (pos 1))) (member (codes "b") (number (of_integer (pos 2))) no_members)) ≡ Ok ((codes "a", pos 1) ∷ (codes "b", pos 2) ∷ [])
pairs_in-two = refl

pairs_in-too_many : pairs_in 1 (member (codes "a") (number (of_integer (pos 1))) (member (codes "b") (number (of_integer (pos 2))) no_members)) ≡ Err TooMany
pairs_in-too_many = refl

pairs_in-not_whole : pairs_in 1 (member (codes "a") (string (codes "x")) (member (codes "b") (number (of_integer (pos 1))) no_members)) ≡ Err NotWhole
pairs_in-not_whole = refl

pairs_in-none : pairs_in 0 no_members ≡ Ok []
pairs_in-none = refl

-- the pairs of the object that a text is, for a map of capacity N, or the first fault
abbrev pub pairs_for : ℕ → Bytes → Result (List (Bytes × ℤ)) JsonFault
pairs_for N text = and_then (ok_or (read text) BadText) (λ value. and_then (ok_or (as_object value) NotObject) (pairs_in N))

-- an array's texts for a set of capacity N, each distinct one as it came first
abbrev pub texts_in : ℕ → Items → Result (List Bytes) JsonFault
texts_in N items = and_then (ok_or (all_texts items) NotText) (λ texts. items_for N (distinct bytes_eq texts))

-- `["b", "a", "b"]` for two and for one, and `["a", 1]`
texts_in-two : texts_in 2 (item (string (codes "b")) (item (string (codes "a")) (item (string (codes "b")) no_items))) ≡ Ok (codes "b" ∷ codes "a" ∷ [])
unfolding put_item
texts_in-two = refl

texts_in-too_many : texts_in 1 (item (string (codes "b")) (item (string (codes "a")) (item (string (codes "b")) no_items))) ≡ Err TooMany
unfolding put_item
texts_in-too_many = refl

texts_in-not_text : texts_in 2 (item (string (codes "a")) (item (number (of_integer (pos 1))) no_items)) ≡ Err NotText
texts_in-not_text = refl

-- the texts of the array that a text is, each distinct one as it came first, for a set of capacity N, or the first fault
abbrev pub texts_for : ℕ → Bytes → Result (List Bytes) JsonFault
texts_for N text = and_then (ok_or (read text) BadText) (λ value. and_then (ok_or (as_array value) NotArray) (texts_in N))

-- the fault that a text has, or want of memory
abbrev pub IsFault : {X : Type 0} → Result X JsonFault → JsonFault → Type 0
IsFault reading fault = (fault ≡ Memory) ⊎ (reading ≡ Err fault)

-- that of the reading, `Memory` of any reading, and no other
IsFault-reading : IsFault (pairs_in 0 (member (codes "a") (string (codes "x")) no_members)) NotWhole
IsFault-reading = inr refl

IsFault-memory : IsFault (pairs_in 0 no_members) Memory
IsFault-memory = inl refl

IsFault-other : ¬ IsFault (pairs_in 0 no_members) TooMany
IsFault-other (inl e) = true≢false (ap (λ fault. nat_eq 6 (code fault)) e)
IsFault-other (inr e) = true≢false (ap is_ok e)

-- the text is an object of at most N members with whole numbers, which has just these pairs, in whatever order
abbrev pub HasPairs : ℕ → Bytes → Pairs → Type 0
HasPairs N text pairs = (members : List (Bytes × ℤ)) × (pairs_for N text ≡ Ok members) × Same bytes_eq int_eq members (key_texts pairs)

-- the array of the texts, in their order
abbrev pub elements : List (String Global) → Items
elements items = items_of (map (λ s. string (string_bytes s)) items)

-- of any two texts
elements-two : (s t : String Global) → elements (s ∷ t ∷ []) ≡ item (string (string_bytes s)) (item (string (string_bytes t)) no_items)
elements-two s t = refl

-- the members of the pairs, each a name with its number, in the order of an object
abbrev pub members : Pairs → Members
members = fold (λ ms p. put (string_bytes p.0) (number (of_integer p.1)) ms) no_members

-- of any text with a number
members-one : (s : String Global) → members ((s, pos 1) ∷ []) ≡ member (string_bytes s) (number (of_integer (pos 1))) no_members
members-one s = refl
