-- Two lists of pairs are the same if the keys and values of one are equal clones of the other's.
use Rattle.std.specs.Cmp.{IsEquivalence, and_equiv, on_equiv}
use Rattle.std.specs.Cmp.Derive.{both_true}
use Rattle.std.specs.List.{AllZip}
use Rattle.std.specs.Prelude.{Bool, List}
use Rattle.std.specs.Set.{ClonesAreEqual}
use Rattle.micromap_core.specs.Clones.{IsPairClone}
use Rattle.micromap_core.specs.Same.{Same}
use Rattle.micromap_core.specs.SameLaws.{clones_have_equal_items}

module _ {K V : Type 0} {eq : K → K → Bool} {same : V → V → Bool} (keys : IsEquivalence eq) (values : IsEquivalence same) where
  pub clones_have_equal_pairs : {C : K → K → Type 0} {D : V → V → Type 0} → ClonesAreEqual eq C → ClonesAreEqual same D
      → (ps qs : List (K × V)) → AllZip (IsPairClone C D) ps qs → Same eq same ps qs
  clones_have_equal_pairs equal_keys equal_values = clones_have_equal_items
      (and_equiv (on_equiv (λ p. p.0) keys) (on_equiv (λ p. p.1) values))
      (λ p q clones. both_true (equal_keys p.0 q.0 clones.0) (equal_values p.1 q.1 clones.1))
