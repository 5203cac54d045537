-- For proofs: facts about two lists of one length side by side.
use Rattle.std.proofs.Common.{◌≡◌, ℕ, [], ◌∷◌, ◌++◌, ◌∙◌, ap, arith, length, option_map, refl, remove, slice_get, slice_set, suc, swap, sym}
use Rattle.std.proofs.Common.{take, zero, zip, List, Some}
use Rattle.std.proofs.lemmas.Slice.Zip.{firsts-zip, length-zip, seconds-zip}
use Rattle.std.{specs.Map.keys_of, specs.Map.values_of, proofs.lemmas.Grind.common_steps}
use Rattle.micromap_walk.{specs.Lends.with_value_at, proofs.Laws.Lists.map-swap}

module _ {K V : Type 0} where
  -- as many pairs as keys
  pub length_zip : (ks : List K) (vs : List V) → length ks ≡ length vs → length (zip ks vs) ≡ length ks
  length_zip ks vs same = omega (arith, same, length-zip ks vs)

  -- their keys and values are the columns
  pub keys_zip : (ks : List K) (vs : List V) → length ks ≡ length vs → keys_of (zip ks vs) ≡ ks
  keys_zip ks vs same = firsts-zip ks vs (sym same)

  pub values_zip : (ks : List K) (vs : List V) → length ks ≡ length vs → values_of (zip ks vs) ≡ vs
  values_zip ks vs same = seconds-zip ks vs (sym same)

  -- the parts of both
  pub zip_append : (ks ls : List K) (vs ws : List V) → length ks ≡ length vs → zip (ks ++ ls) (vs ++ ws) ≡ zip ks vs ++ zip ls ws
  zip_append [] ls [] ws same = refl
  zip_append [] ls (v ∷ vs) ws same = absurd (omega (arith, same))
  zip_append (k ∷ ks) ls [] ws same = absurd (omega (arith, same))
  zip_append (k ∷ ks) ls (v ∷ vs) ws same = ap (λ l. (k, v) ∷ l) (zip_append ks ls vs ws (omega (arith, same)))

  -- there are as many keys as pairs, and as many values
  module _ (ks : List K) (vs : List V) (pairs : List (K × V)) (same : length ks ≡ length vs) (seen : zip ks vs ≡ pairs) where
    pub as_many_keys : length pairs ≡ length ks
    as_many_keys = ap length (sym seen) ∙ length_zip ks vs same

    pub as_many_values : length pairs ≡ length vs
    as_many_values = as_many_keys ∙ same

  -- the pair at an index
  pub get_zip : (ks : List K) (vs : List V) (i : ℕ) (k : K) (v : V) → slice_get ks i ≡ Some k
      → slice_get vs i ≡ Some v → slice_get (zip ks vs) i ≡ Some (k, v)
  get_zip [] vs i k v key value = grind (arith, common_steps, key)
  get_zip (a ∷ ks) [] i k v key value = grind (arith, common_steps, value)
  get_zip (a ∷ ks) (b ∷ vs) zero k v key value = grind (arith, common_steps, key, value)
  get_zip (a ∷ ks) (b ∷ vs) (suc i) k v key value = get_zip ks vs i k v key value

  pub set_zip : (ks : List K) (vs : List V) (i : ℕ) (k : K) (v : V) → length ks ≡ length vs
      → zip (slice_set ks i k) (slice_set vs i v) ≡ slice_set (zip ks vs) i (k, v)
  set_zip [] vs i k v same = refl
  set_zip (a ∷ ks) [] i k v same = absurd (omega (arith, same))
  set_zip (a ∷ ks) (b ∷ vs) zero k v same = refl
  set_zip (a ∷ ks) (b ∷ vs) (suc i) k v same = ap (λ l. (a, b) ∷ l) (set_zip ks vs i k v (omega (arith, same)))

  pub zip_columns : (pairs : List (K × V)) → zip (keys_of pairs) (values_of pairs) ≡ pairs
  zip_columns [] = refl
  zip_columns (p ∷ pairs) = ap (λ l. p ∷ l) (zip_columns pairs)

  -- each of two pairs in the other's place
  pub zip_swap : (ks : List K) (vs : List V) (i j : ℕ) → length ks ≡ length vs → zip (swap ks i j) (swap vs i j) ≡ swap (zip ks vs) i j
  zip_swap ks vs i j same = (λ z. zip (swap (sym (keys_zip ks vs same) z) i j) (swap (sym (values_zip ks vs same) z) i j))
      ∙ (λ z. zip (sym (map-swap (λ p. p.0) (zip ks vs) i j) z)
      (sym (map-swap (λ p. p.1) (zip ks vs) i j) z)) ∙ zip_columns (swap (zip ks vs) i j)

  -- the first pairs
  pub zip_take : (n : ℕ) (ks : List K) (vs : List V) → zip (take n ks) (take n vs) ≡ take n (zip ks vs)
  zip_take zero ks vs = refl
  zip_take (suc n) [] vs = refl
  zip_take (suc n) (k ∷ ks) [] = refl
  zip_take (suc n) (k ∷ ks) (v ∷ vs) = ap (λ l. (k, v) ∷ l) (zip_take n ks vs)

  -- without the pair at an index
  pub zip_remove : (ks : List K) (vs : List V) (i : ℕ) → length ks ≡ length vs → zip (remove ks i) (remove vs i) ≡ remove (zip ks vs) i
  zip_remove [] vs zero same = refl
  zip_remove [] vs (suc i) same = refl
  zip_remove (k ∷ ks) [] i same = absurd (omega (arith, same))
  zip_remove (k ∷ ks) (v ∷ vs) zero same = refl
  zip_remove (k ∷ ks) (v ∷ vs) (suc i) same = ap (λ l. (k, v) ∷ l) (zip_remove ks vs i (omega (arith, same)))

  -- the value at an index, and another one there
  pub value_zip : (ks : List K) (vs : List V) (i : ℕ) → length ks ≡ length vs
      → option_map (λ p. p.1) (slice_get (zip ks vs) i) ≡ slice_get vs i
  value_zip [] [] i same = refl
  value_zip [] (v ∷ vs) i same = absurd (omega (arith, same))
  value_zip (k ∷ ks) [] i same = absurd (omega (arith, same))
  value_zip (k ∷ ks) (v ∷ vs) zero same = refl
  value_zip (k ∷ ks) (v ∷ vs) (suc i) same = value_zip ks vs i (omega (arith, same))

  pub set_value_zip : (ks : List K) (vs : List V) (i : ℕ) (w : V) → length ks ≡ length vs
      → zip ks (slice_set vs i w) ≡ with_value_at (zip ks vs) i w
  set_value_zip [] vs i w same = grind (arith, common_steps, same)
  set_value_zip (k ∷ ks) [] i w same = absurd (omega (arith, same))
  set_value_zip (k ∷ ks) (v ∷ vs) zero w same = refl
  set_value_zip (k ∷ ks) (v ∷ vs) (suc i) w same = let rest = set_value_zip ks vs i w (omega (arith, same)) in grind (arith, rest)

  -- the columns stay as long as each other
  pub equal_remove : (ks : List K) (vs : List V) (i : ℕ) → length ks ≡ length vs → length (remove ks i) ≡ length (remove vs i)
  equal_remove ks vs i same = grind (arith, common_steps, same)

  pub equal_push : (ks : List K) (vs : List V) (k : K) (v : V) → length ks ≡ length vs → length (ks ++ k ∷ []) ≡ length (vs ++ v ∷ [])
  equal_push ks vs k v same = grind (arith, common_steps, same)
