-- For proofs: a scan for the index of the first key that passes a test.
use Rattle.std.proofs.Common.{◌≡◌, ℕ, ◌+◌, [], ◌∷◌, ap, arith, refl, false, if◌then◌else◌, length, not, true, Bool, List, None, Some}
use Rattle.std.specs.List.{list_any, position, position_or_len}
use Rattle.std.proofs.lemmas.Grind.{common_steps}

module _ {K : Type 0} (test : K → Bool) where
  -- as many keys as were counted stand before those left, and none of them passes the test
  pub record NotYet (count : ℕ) (left all : List K) : Type 0 where
    pub counted : count + length left ≡ length all
    pub first : position_or_len test all ≡ count + position_or_len test left

  -- none passes, so the first isn't there
  past-none : (all : List K) → list_any test all ≡ false → position_or_len test all ≡ length all
  past-none [] none = refl
  past-none (x ∷ all) none = grind (arith, common_steps, none, past-none all)

  pub position-none : (all : List K) → list_any test all ≡ false → position test all ≡ None
  position-none all none = grind (arith, common_steps, past-none all none)

  pub not_yet-start : (all : List K) → NotYet 0 all all
  not_yet-start all = record { counted = omega arith; first = omega arith }

  fails-on : (x : K) (rest : List K) → test x ≡ false → position_or_len test (x ∷ rest) ≡ 1 + position_or_len test rest
  fails-on x rest fails = ap (λ b. if not b then 1 + position_or_len test rest else 0) fails

  passes-here : (x : K) (rest : List K) → test x ≡ true → position_or_len test (x ∷ rest) ≡ 0
  passes-here x rest passes = ap (λ b. if not b then 1 + position_or_len test rest else 0) passes

module _ {K : Type 0} {test : K → Bool} {count : ℕ} {left all : List K} (scan : NotYet test count left all) where
  module _ {x : K} {rest : List K} (parts : left ≡ x ∷ rest) where
    pub not_yet-on : test x ≡ false → NotYet test (count + 1) rest all
    not_yet-on fails = record {
      counted = omega (arith, scan.counted, ap length parts);
      first = omega (arith, scan.first, ap (position_or_len test) parts, fails-on test x rest fails);
    }

    pub not_yet-found : test x ≡ true → position test all ≡ Some count
    not_yet-found passes =
        let here : position_or_len test all ≡ count =
        omega (arith, scan.first, ap (position_or_len test) parts, passes-here test x rest passes) in
        grind (arith, common_steps, here, scan.counted, ap length parts)

  pub not_yet-missing : left ≡ [] → position test all ≡ None
  not_yet-missing none =
      let past : position_or_len test all ≡ length all =
      omega (arith, scan.counted, scan.first, ap length none, ap (position_or_len test) none) in
      grind (arith, common_steps, past)
