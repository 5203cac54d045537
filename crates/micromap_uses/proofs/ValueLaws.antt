-- Values that all pass a test: they still do after a put of one that passes.
use Rattle.std.proofs.Common.{◌≡◌, [], ◌∷◌, ◌++◌, arith, true, Bool, List, refl}
use Rattle.std.specs.List.{list_all}
use Rattle.std.specs.Map.{set_value, values_of}
use Rattle.micromap.specs.Pairs.{put}

module _ {K V : Type 0} (test : V → Bool) where
  all_set : (key : K → Bool) (pairs : List (K × V)) (v : V) → list_all test (values_of pairs) ≡ true
      → test v ≡ true → list_all test (values_of (set_value key pairs v)) ≡ true
  all_set key [] v all passes = refl
  all_set key (e ∷ pairs) v all passes = grind (arith, all, all_set key pairs v, passes)

  all_push : (pairs : List (K × V)) (k : K) (v : V) → list_all test (values_of pairs) ≡ true
      → test v ≡ true → list_all test (values_of (pairs ++ (k, v) ∷ [])) ≡ true
  all_push [] k v all passes = grind (arith, passes)
  all_push (e ∷ pairs) k v all passes = grind (arith, all, all_push pairs k v, passes)

  pub all_values_put : (eq : K → K → Bool) (pairs : List (K × V)) (k : K) (v : V)
      → list_all test (values_of pairs) ≡ true → test v ≡ true → list_all test (values_of (put eq pairs k v)) ≡ true
  unfolding put
  all_values_put eq pairs k v all passes =
      grind (arith, all_set (eq k) pairs v all passes, all_push pairs k v all passes)
