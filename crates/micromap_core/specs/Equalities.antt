-- What a law requires of an equality, and of a test of keys. A search finds the words by their names: none unfolds. In the
-- place of a record, whose fields it would try at each key, it matches the word.
use Rattle.std.specs.Prelude.{◌≡◌, Bool, true}
use Rattle.std.specs.Cmp.{IsEquivalence}

module _ {K : Type 0} where
  -- eq is an equivalence, the test passes equal keys alike, and keys that pass are equal
  pub record IsProbe (eq : K → K → Bool) (test : K → Bool) : Type 0 where
    pub laws : IsEquivalence eq
    pub alike_keys : (x y : K) → eq x y ≡ true → test x ≡ test y
    pub equal_keys : (x y : K) → test x ≡ true → test y ≡ true → eq x y ≡ true

  -- eq is an equivalence
  unfoldable pub Lawful : (K → K → Bool) → Type 0
  Lawful eq = IsEquivalence eq

  -- eq is an equivalence, and the test is a probe of it
  unfoldable pub Probes : (K → K → Bool) → (K → Bool) → Type 0
  Probes eq test = IsProbe eq test
