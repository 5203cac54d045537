-- For proofs: how many steps a look-up and a comparison take at most, so that there is room for them in a counter.
use Rattle.std.proofs.Common.{◌≡◌, ◌≢◌, ℕ, ◌+◌, ◌*◌, ◌≤◌, ◌&&◌, [], ◌∷◌, ◌∙◌, ap, arith, eq-eqb, false, if◌then◌else◌, length, ne_eqb, not}
use Rattle.std.proofs.Common.{refl, subst, suc, sum_by, sym, take, true, Bool, List}
use Rattle.std.specs.List.{list_all, position_or_len}
use Rattle.std.proofs.lemmas.{Bool.Decides.nat_tests, List.Sums.sum_by-cons, Map.Entries.length-keys_of}
use Rattle.micromap_core.specs.{Same.has_value, Steps.comparison_steps, Steps.look_up_steps, Steps.total_steps}

-- the most steps of a look-up of each key that is left among n pairs
abbrev pub most_steps : {X : Type 0} → List X → ℕ → ℕ
most_steps [] n = 0
most_steps (x ∷ left) n = n + most_steps left n

pub most_steps-product : {X : Type 0} (left : List X) (n : ℕ) → most_steps left n ≡ length left * n
most_steps-product [] n = omega arith
most_steps-product (x ∷ left) n = omega (arith, most_steps-product left n)

-- the cost of the items through the first that fails a test: the first item's, and where it passes that of the others
through-cons : {X : Type 0} (cost : X → ℕ) (test : X → Bool) (x : X) (xs : List X)
    → sum_by cost (take (suc (position_or_len (λ y. not (test y)) (x ∷ xs))) (x ∷ xs))
    ≡ cost x + (if test x then sum_by cost (take (suc (position_or_len (λ y. not (test y)) xs)) xs) else 0)
through-cons cost test x xs =
    let n = position_or_len (λ y. not (test y)) xs in
    let more : 1 + n ≡ suc n = omega arith in
    sum_by-cons cost x (take (if not (not (test x)) then 1 + n else 0) xs)
    ∙ elim (test x) as (λ b. cost x + sum_by cost (take (if not (not b) then 1 + n else 0) xs)
    ≡ cost x + (if b then sum_by cost (take (suc n) xs) else 0)) [
      | true ↦ ap (λ m. cost x + sum_by cost (take m xs)) more
      | false ↦ refl
    ]

-- a look-up takes at most as many steps as there are pairs, and so does each of a walk
module _ {K V : Type 0} (eq : K → K → Bool) where
  pub look_up_steps-bound : (pairs : List (K × V)) (k : K) → look_up_steps eq pairs k ≤ length pairs
  look_up_steps-bound pairs k = let long = length-keys_of pairs in grind (arith, nat_tests)

  pub steps-bound : (pairs : List (K × V)) (k : K) (old new : ℕ) → new ≡ old + look_up_steps eq pairs k → new ≤ old + length pairs
  steps-bound pairs k old new count = omega (arith, count, look_up_steps-bound pairs k)

  total_steps-cons : (same : V → V → Bool) (other : List (K × V)) (p : K × V) (left : List (K × V)) → total_steps eq same other (p ∷ left)
      ≡ look_up_steps eq other p.0 + (if has_value eq same other p then total_steps eq same other left else 0)
  total_steps-cons same other p left = through-cons (λ q. look_up_steps eq other q.0) (has_value eq same other) p left

  total_steps-bound : (same : V → V → Bool) (other left : List (K × V)) → total_steps eq same other left ≤ most_steps left (length other)
  total_steps-bound same other [] = omega arith
  total_steps-bound same other (p ∷ left) =
      let here = look_up_steps-bound other p.0 in let rest = total_steps-bound same other left in
      grind (arith, total_steps-cons same other p left)

  -- a walk of two lists that are equally long takes at most the length times itself
  pub total_steps-square : (same : V → V → Bool) (other left : List (K × V))
      → length left ≡ length other → total_steps eq same other left ≤ length left * length left
  total_steps-square same other left long = subst (λ n. total_steps eq same other left ≤ length left * n) (sym long)
      (omega (arith, total_steps-bound same other left, most_steps-product left (length other)))

-- a comparison takes the steps of a walk where the lengths are equal, and else none
module _ {K V : Type 0} (eq : K → K → Bool) (same : V → V → Bool) (first second : List (K × V))
    {m n : ℕ} (one : m ≡ length first) (two : n ≡ length second) where
  pub comparison_long : m ≡ n → comparison_steps eq same first second ≡ total_steps eq same second first
  comparison_long long = ap (λ b. if b then total_steps eq same second first else 0)
      (eq-eqb (length first) (length second) (sym one ∙ long ∙ two))

  pub comparison_short : m ≢ n → comparison_steps eq same first second ≡ 0
  comparison_short apart = ap (λ b. if b then total_steps eq same second first else 0)
      (ne_eqb (length first) (length second) (λ long. apart (one ∙ long ∙ sym two)))

-- at the next of the pairs that are left, where it is known whether the other list has an equal value there
module _ {K V : Type 0} (eq : K → K → Bool) (same : V → V → Bool) (other : List (K × V)) {p : K × V}
    {left rest : List (K × V)} (next : left ≡ p ∷ rest) {b : Bool} (tells : b ≡ has_value eq same other p) where
  pub total_step : total_steps eq same other left ≡ look_up_steps eq other p.0 + (if b then total_steps eq same other rest else 0)
  total_step = rw (next, tells) (total_steps-cons eq same other p rest)

  pub all_step : list_all (has_value eq same other) left ≡ (b && list_all (has_value eq same other) rest)
  all_step = rw (next, tells) refl
