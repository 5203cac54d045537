-- Texts seen by their bytes. The words are for callers' contracts: a caller that makes a `String` knows no more of it, and
-- a `&str` of its own says where it points besides. `bytes_of` shows a key's bytes: `string_bytes` those of a `String`, and
-- `λ s. s.now` those of a `&str`.
use Rattle.std.specs.Prelude.{◌≡◌, ℕ, Bool, true, false, List, [], ◌∷◌, String, codes, map, refl, string_bytes}
use Rattle.std.specs.Borrow.{Bor}
use Rattle.std.specs.Ordering.{on}
use Rattle.std.specs.Str.{bytes_eq}
use Rattle.micromap_core.specs.Examples.{ref_to}

-- the `==` of `&str`
abbrev pub str_eq : Bor (List ℕ) → Bor (List ℕ) → Bool
str_eq = on (λ s. s.now) bytes_eq

-- of the same text, and of a text and a beginning of it
str_eq-same : str_eq (ref_to (codes "two")) (ref_to (codes "two")) ≡ true
str_eq-same = refl

str_eq-beginning : str_eq (ref_to (codes "two")) (ref_to (codes "tw")) ≡ false
str_eq-beginning = refl

-- the pairs with each key as its bytes, and each value by `value_of`
unfoldable pub texts_by : {K V W : Type 0} → (K → List ℕ) → (V → W) → List (K × V) → List (List ℕ × W)
texts_by bytes_of value_of pairs = map (λ p. (bytes_of p.0, value_of p.1)) pairs

-- a set's items, by their bytes
unfoldable pub items_by : {T : Type 0} → (T → List ℕ) → List T → List (List ℕ)
items_by bytes_of items = map bytes_of items

-- of two pairs with `&str` keys, and of none
texts_by-two : texts_by {V = ℕ} (λ s. s.now) (λ v. v) ((ref_to (codes "b"), 2) ∷ (ref_to (codes "a"), 1) ∷ []) ≡ (codes "b", 2) ∷ (codes "a", 1) ∷ []
unfolding texts_by
texts_by-two = refl

texts_by-none : texts_by {V = ℕ} (λ k. k) (λ v. v) [] ≡ []
unfolding texts_by
texts_by-none = refl

items_by-two : items_by (λ s. s.now) (ref_to (codes "b") ∷ ref_to (codes "a") ∷ []) ≡ codes "b" ∷ codes "a" ∷ []
unfolding items_by
items_by-two = refl

-- the pairs with each `String` key as its bytes
abbrev pub key_texts : {Z V : Type 0} → List (String Z × V) → List (List ℕ × V)
key_texts pairs = texts_by string_bytes (λ v. v) pairs

-- of a pair with any `String` as key
key_texts-one : {Z : Type 0} (s : String Z) → key_texts {V = ℕ} ((s, 10) ∷ []) ≡ (string_bytes s, 10) ∷ []
unfolding texts_by
key_texts-one s = refl

-- the pairs with each `String` key and each `String` value as its bytes
abbrev pub texts : {Y Z : Type 0} → List (String Y × String Z) → List (List ℕ × List ℕ)
texts pairs = texts_by string_bytes string_bytes pairs

texts-one : {Z : Type 0} (s t : String Z) → texts ((s, t) ∷ []) ≡ (string_bytes s, string_bytes t) ∷ []
unfolding texts_by
texts-one s t = refl

-- a set's `String` items, each as its bytes
abbrev pub item_texts : {Z : Type 0} → List (String Z) → List (List ℕ)
item_texts items = items_by string_bytes items

item_texts-two : {Z : Type 0} (s t : String Z) → item_texts (s ∷ t ∷ []) ≡ string_bytes s ∷ string_bytes t ∷ []
unfolding items_by
item_texts-two s t = refl

-- the pairs with each `&str` key as its bytes
abbrev pub key_strs : {V : Type 0} → List (Bor (List ℕ) × V) → List (List ℕ × V)
key_strs pairs = texts_by (λ s. s.now) (λ v. v) pairs

key_strs-two : key_strs {V = ℕ} ((ref_to (codes "b"), 2) ∷ (ref_to (codes "a"), 1) ∷ []) ≡ (codes "b", 2) ∷ (codes "a", 1) ∷ []
unfolding texts_by
key_strs-two = refl

-- the pairs with each `&str` key and each `&str` value as its bytes
abbrev pub strs : List (Bor (List ℕ) × Bor (List ℕ)) → List (List ℕ × List ℕ)
strs pairs = texts_by (λ s. s.now) (λ s. s.now) pairs

strs-one : strs ((ref_to (codes "a"), ref_to (codes "b")) ∷ []) ≡ (codes "a", codes "b") ∷ []
unfolding texts_by
strs-one = refl

-- a set's `&str` items, each as its bytes
abbrev pub item_strs : List (Bor (List ℕ)) → List (List ℕ)
item_strs items = items_by (λ s. s.now) items

item_strs-two : item_strs (ref_to (codes "b") ∷ ref_to (codes "a") ∷ []) ≡ codes "b" ∷ codes "a" ∷ []
unfolding items_by
item_strs-two = refl
