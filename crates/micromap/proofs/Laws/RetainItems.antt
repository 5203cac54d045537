-- For proofs: a set passes its map a closure that calls the set's own closure with each key. The calls of the one tell
-- the calls of the other.
use Rattle.std.proofs.Common.{Bool, List, [], ◌∷◌, ap, ◌∙◌}
use Rattle.std.specs.{List.FoldsTo, Map.keys_of, Map.Calls.CallableOnEachPair, Map.Calls.SomeCallAtPair}
use Rattle.std.proofs.lemmas.List.{map-append}
use Rattle.micromap_core.specs.Closures.{AtEachTurn}

module _ {F G T V : Type 0} (S : F → T → V → Bool → V → F → Type 0) (R : G → T → Bool → G → Type 0)
    (look : F → G) (says : (s : F) (k : T) (v : V) (b : Bool) (w : V) (t : F) → S s k v b w t → R (look s) k b (look t)) where
  calls_inner : (f s : F) (pairs : List (T × V)) → FoldsTo (SomeCallAtPair S) f pairs s
      → FoldsTo (λ h x t. (b : Bool) × R h x b t) (look f) (keys_of pairs) (look s)
  calls_inner f s [] calls = ap look calls
  calls_inner f s (p ∷ pairs) calls = (
    look calls.0,
    (calls.1.0, says f p.0 p.1 calls.1.0 calls.1.1 calls.0 calls.1.2),
    calls_inner calls.0 s pairs calls.2,
  )

  pub callable_inner : (Q : G → T → Type 0) (f : F) (pairs : List (T × V))
      → AtEachTurn (λ h x t. (b : Bool) × R h x b t) (look f) (keys_of pairs) Q → CallableOnEachPair S (λ s k v. Q (look s) k) f pairs
  callable_inner Q f pairs may = record {
    at = λ before after s k v parts calls. may.each (keys_of before) (keys_of after) k (look s)
        (ap keys_of parts ∙ map-append (λ p. p.0) before ((k, v) ∷ after)) (calls_inner f s before calls);
  }
