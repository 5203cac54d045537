-- When two pairs are clones, and when clones are identical. C and D say what a clone of a key, or of a value, may be.
use Rattle.std.specs.Prelude.{◌≡◌, ℕ, Bool, nat_eq, refl, IsTrue}
use Rattle.std.specs.Cmp.{IsEquivalence}
use Rattle.std.proofs.Common.{ap, sym, true≢false}
use Rattle.micromap_core.specs.Examples.{half_eq}

-- a clone is the very same value
abbrev pub AreIdentical : {X : Type 0} → (X → X → Type 0) → Type 0
AreIdentical {X} C = (x y : X) → C x y → y ≡ x

-- if a clone is a copy, and not if it is any equal number
AreIdentical-copies : AreIdentical {X = ℕ} (λ x y. y ≡ x)
AreIdentical-copies x y copy = copy

AreIdentical-equal : ¬ AreIdentical (λ x y. IsTrue (half_eq x y))
AreIdentical-equal identical = true≢false (ap (nat_eq 3) (identical 2 3 refl))

-- the key and the value of q are clones of those of p
abbrev pub IsPairClone : {K V : Type 0} → (K → K → Type 0) → (V → V → Type 0) → K × V → K × V → Type 0
IsPairClone C D p q = C p.0 q.0 × D p.1 q.1

-- with an equal key and the same value, and not with another value
IsPairClone-equal_key : IsPairClone (λ k q. IsTrue (half_eq k q)) (λ v w. IsTrue (nat_eq v w)) (2, 20) (3, 20)
IsPairClone-equal_key = (refl, refl)

IsPairClone-other_value : ¬ IsPairClone (λ k q. IsTrue (half_eq k q)) (λ v w. IsTrue (nat_eq v w)) (2, 20) (3, 30)
IsPairClone-other_value clone = true≢false (sym clone.1)

-- a clone that is equal to its key
abbrev pub IsEqualClone : {K : Type 0} → (K → K → Bool) → (K → K → Type 0) → K → K → Type 0
IsEqualClone eq C k q = C k q × IsTrue (eq k q)

-- of any clone that is equal, and not of one that isn't
IsEqualClone-equal : IsEqualClone half_eq (λ k q. Unit {0}) 2 3
IsEqualClone-equal = (tt, refl)

IsEqualClone-unequal : ¬ IsEqualClone half_eq (λ k q. Unit {0}) 2 4
IsEqualClone-unequal clone = true≢false (sym clone.1)

module _ {K : Type 0} {eq : K → K → Bool} (laws : IsEquivalence eq) where
  -- a copy is equal
  pub copies_are_equal : (key new : K) → new ≡ key → IsTrue (eq key new)
  copies_are_equal key new copy = rw copy (laws.refl key)
