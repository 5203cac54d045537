-- The tests of `Text`, and the laws of a probe that compares by an equality. A call by probe is stated by its test.
use Rattle.std.proofs.Common.{refl, sym, ◌∙◌, ◌≡◌, ℕ, Bool, true, false, List, String, codes, nat_eq, string_bytes, Bor}
use Rattle.std.specs.Cmp.{IsEquivalence}
use Rattle.std.specs.Cmp.Lexicographic.{pointwise}
use Rattle.micromap_core.specs.Examples.{ref_to}

-- the key has the text of these bytes
abbrev pub is_text : {Z : Type 0} → List ℕ → String Z → Bool
is_text bytes key = pointwise nat_eq bytes (string_bytes key)

-- the key, a `&str`, has the text of these bytes
abbrev pub is_str : List ℕ → Bor (List ℕ) → Bool
is_str bytes key = pointwise nat_eq bytes key.now

-- of a key with the text, of one with a beginning of it, and of empty texts; a `String` is tested as a `&str` to its bytes
is_str-same : is_str (codes "two") (ref_to (codes "two")) ≡ true
is_str-same = refl

is_str-beginning : is_str (codes "two") (ref_to (codes "tw")) ≡ false
is_str-beginning = refl

is_str-empty : is_str (codes "") (ref_to (codes "")) ≡ true
is_str-empty = refl

is_text-string : {Z : Type 0} (s : String Z) → is_text (codes "two") s ≡ is_str (codes "two") (ref_to (string_bytes s))
is_text-string s = refl

module _ {K : Type 0} {eq : K → K → Bool} (laws : IsEquivalence eq) where
  -- keys that are equal are equal to the same keys
  pub alike : (p x y : K) → eq x y ≡ true → eq p x ≡ eq p y
  alike p x y same = laws.symm p x ∙ laws.congr x y p same ∙ laws.symm y p

  -- keys that are equal to one key are equal
  pub equal : (p x y : K) → eq p x ≡ true → eq p y ≡ true → eq x y ≡ true
  equal p x y first second = sym (laws.congr p x y first) ∙ second
