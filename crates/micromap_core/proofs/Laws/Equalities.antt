-- For callers: the equalities that are known to be lawful, and the tests that are known to be probes for them. For an
-- equality of your own, `lawful` proves `lawful_mine : Lawful my_eq` in one line.
use Rattle.std.proofs.Common.{◌≡◌, ◌∙◌, ℕ, nat_eq, string_bytes, sym, true, Bool, List, String}
use Rattle.std.specs.{Bool.beq, Cmp.bool_eq_equiv, Cmp.both_ways, Cmp.IsEquivalence, Cmp.Lexicographic.pointwise}
use Rattle.std.specs.{Ordering.int_eq, Ordering.on, String.string_eq, String.string_eq_equiv}
use Rattle.std.proofs.lemmas.Cmp.{int_eq_equiv, nat_eq_equiv, nat_list_eq_equiv, on_equiv}
use Rattle.micromap_core.specs.{Equalities.IsProbe, Equalities.Lawful, Equalities.Probes, Texts.str_eq}
use Rattle.micromap_core.specs.Probe.{alike, equal, is_str, is_text}

-- P, which a search comes upon where it sees x: the equation of x with itself shows it the law
abbrev pub Trigger : {X : Type 0} → X → Type 0 → Type 0
Trigger x P = (x ≡ x) × P

-- if a key passes a test that has the two laws of a probe, then the test is equality with that key
pub same_test : {K : Type 0} (eq : K → K → Bool) (test : K → Bool) (alike : (x y : K) → eq x y ≡ true → test x ≡ test y)
    (single : (x y : K) → test x ≡ true → test y ≡ true → eq x y ≡ true) (k : K) → test k ≡ true → test ≡ eq k
same_test eq test alike single k passes = λ i y. both_ways (test y) (eq k y) (single k y passes) (λ e. sym (alike k y e) ∙ passes) i

module _ {K : Type 0} (eq : K → K → Bool) where
  -- the words are what they stand for
  pub lawful : IsEquivalence eq → Lawful eq
  unfolding Lawful
  lawful laws = laws

  pub of_lawful : Lawful eq → IsEquivalence eq
  unfolding Lawful
  of_lawful laws = laws

  module _ (test : K → Bool) where
    pub probes : IsProbe eq test → Probes eq test
    unfolding Probes
    probes p = p

    pub of_probes : Probes eq test → IsProbe eq test
    unfolding Probes
    of_probes p = p

  -- a key is a probe
  is_probe : IsEquivalence eq → (k : K) → IsProbe eq (eq k)
  is_probe laws k = record { laws = laws; alike_keys = alike laws k; equal_keys = equal laws k }

  pub probes_key : (k : K) → Lawful eq → Probes eq (eq k)
  probes_key k laws = probes (eq k) (is_probe (of_lawful laws) k)

-- numbers, and characters, which are compared as numbers
pub lawful_nat : Lawful nat_eq
lawful_nat = lawful nat_eq nat_eq_equiv

pub lawful_int : Lawful int_eq
lawful_int = lawful int_eq int_eq_equiv

pub lawful_bool : Lawful beq
lawful_bool = lawful beq bool_eq_equiv

-- texts: a `String`, by itself and by `Text`; the bytes of one, which `bytes_eq` compares, as `pointwise nat_eq` does; a
-- `&str`
pub lawful_string : (Z : Type 0) → Lawful (string_eq {Z = Z})
lawful_string Z = lawful string_eq string_eq_equiv

pub probes_string : (Z : Type 0) (k : String Z) → Probes (string_eq {Z = Z}) (string_eq {Z = Z} k)
probes_string Z k = probes_key string_eq k (lawful_string Z)

-- a key that is seen by its bytes
pub probes_by : {K : Type 0} (bytes_of : K → List ℕ) (bytes : List ℕ)
    → Probes (on bytes_of (pointwise nat_eq)) (λ k. pointwise nat_eq bytes (bytes_of k))
probes_by bytes_of bytes = probes _ _ (record {
  laws = on_equiv bytes_of nat_list_eq_equiv;
  alike_keys = λ x y. alike nat_list_eq_equiv bytes (bytes_of x) (bytes_of y);
  equal_keys = λ x y. equal nat_list_eq_equiv bytes (bytes_of x) (bytes_of y);
})

pub probes_text : (Z : Type 0) (bytes : List ℕ) → Probes (string_eq {Z = Z}) (is_text {Z = Z} bytes)
probes_text Z bytes = probes_by string_bytes bytes

pub lawful_bytes : Lawful (pointwise nat_eq)
lawful_bytes = lawful (pointwise nat_eq) nat_list_eq_equiv

pub probes_bytes : (bytes : List ℕ) → Probes (pointwise nat_eq) (pointwise nat_eq bytes)
probes_bytes bytes = probes_key (pointwise nat_eq) bytes lawful_bytes

-- a search needs to be told of either order, since it computes the comparison
pub bytes_swapped : (xs ys : List ℕ) → pointwise nat_eq xs ys ≡ pointwise nat_eq ys xs
bytes_swapped = nat_list_eq_equiv.symm

pub lawful_str : Lawful str_eq
lawful_str = lawful str_eq (on_equiv (λ s. s.now) nat_list_eq_equiv)

pub probes_str : (bytes : List ℕ) → Probes str_eq (is_str bytes)
probes_str bytes = probes_by (λ s. s.now) bytes

-- what compares by a part
pub lawful_on : {K J : Type 0} (f : K → J) (eq : J → J → Bool) → Lawful eq → Lawful (on f eq)
lawful_on f eq laws = lawful (on f eq) (on_equiv f (of_lawful eq laws))

pub ruleset equalities = (
  probes_key,
  lawful_nat,
  lawful_int,
  lawful_bool,
  lawful_string,
  probes_string,
  probes_text,
  lawful_bytes,
  probes_bytes,
  bytes_swapped,
  lawful_str,
  probes_str,
  lawful_on,
)
