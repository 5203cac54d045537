-- What the map's calls make together of the pairs of a cache, when a key is read or put, and that the cache then has what its
-- uses say.
use Rattle.std.proofs.Common.{◌≡◌, ℕ, Bool, true, false, List, [], ◌∷◌, ◌++◌, ◌∙◌, ap, sym, refl, arith, drop, is_some, length}
use Rattle.std.proofs.Common.{length-append, slice_get, ◌-◌, Option, Bor, None, Some, IsTrue, ◌+◌, ◌≤◌, ◌||◌, length-drop, get_or, suc}
use Rattle.std.proofs.Common.{take, ◌<◌, inl, inr}
use Rattle.std.specs.Map.Iter.{deref_pair}
use Rattle.std.specs.Option.{option_map, option_map_or, option_to_list}
use Rattle.std.proofs.lemmas.Bool.Decides.{nat_tests}
use Rattle.std.specs.List.{IsDistinct}
use Rattle.std.proofs.lemmas.Bool.{cases_Bool, cases_lt}
use Rattle.std.proofs.lemmas.List.{append-nil, drop_all, take_more}
use Rattle.micromap.specs.Pairs.{at, fits, has, pair, put, take_out, IsContent, IsUnique}
use Rattle.micromap.proofs.Laws.ChainLaws.{has_alike}
use Rattle.micromap.proofs.Laws.MapLaws.{at_pair, length_take_out, not_fits, put_new, put_taken_out, take_out_missing}
use Rattle.micromap.proofs.Laws.MapLaws.{has_behind, pair_key, take_out_alike}
use Rattle.micromap.specs.Equalities.{Lawful}
use Rattle.micromap.proofs.Laws.Equalities.{of_lawful}
use Rattle.micromap_examples.specs.Recency.{displaced, last_keys, last_uses, newest, put_last, used, used_by, uses}
use Rattle.micromap_examples.specs.declared.lru_cache.Call.{Call}

-- the value in a pair of references
values : {K V : Type 0} (last : Option (Bor K × Bor V)) → option_map (λ p. p.1.now) last ≡ option_map (λ p. p.1) (option_map deref_pair last)
values None = refl
values (Some p) = refl

module _ {K V : Type 0} (eq : K → K → Bool) where
  -- the last pair of a cache in which a key was read has its value
  last_of : (pairs : List (K × V)) (p : K × V) → slice_get (pairs ++ p ∷ []) (length (pairs ++ p ∷ []) - 1) ≡ Some p
  last_of [] p = refl
  last_of (e ∷ pairs) p = grind (arith, last_of pairs p, length-append pairs (p ∷ []))

  last_moved : (pairs left : List (K × V)) (o : Option (K × V)) → true ≡ is_some (option_map (λ p. p.1) o)
      → (let new = option_map_or (λ p. left ++ p ∷ []) o pairs in option_map (λ p. p.1) (slice_get new (length new - 1))) ≡ option_map (λ p. p.1) o
  last_moved pairs left None stored = cc
  last_moved pairs left (Some p) stored = ap (option_map (λ q. q.1)) (last_of left p)

  pub reads_last : (pairs new : List (K × V)) (k : K) (last o : Option (Bor K × Bor V)) → last ≡ o → true ≡ has eq pairs k → new ≡ used eq pairs k
      → option_map deref_pair last ≡ slice_get new (length new - 1) → option_map (λ p. p.1.now) o ≡ at eq pairs k
  reads_last pairs new k last o was stored is read =
      let found = at_pair eq pairs k in
      sym (ap (option_map (λ p. p.1.now)) was) ∙ values last ∙ ap (option_map (λ p. p.1)) read ∙ ap (λ l. option_map (λ p. p.1) (slice_get l (length l - 1))) is
      ∙ last_moved pairs (take_out eq pairs k) (pair eq pairs k) (stored ∙ ap is_some found) ∙ sym found

  -- a key that doesn't fit takes the place of the first pair
  pub put_refused : (N : ℕ) (pairs : List (K × V)) (k : K) (v : V) (oldest : K × V) → fits eq N pairs k ≡ false → slice_get pairs 0 ≡ Some oldest
      → (put eq (drop 1 pairs) k v ≡ put_last eq N pairs k v) × (Some oldest ≡ displaced eq N pairs k v)
  put_refused N [] k v oldest refused found = cc
  put_refused N (e ∷ pairs) k v oldest refused found =
      let new = (not_fits eq N (e ∷ pairs) k refused).0 in
      let kept = take_out_missing eq (e ∷ pairs) k in
      (grind (arith, refused, new, kept, put_new eq pairs k v), grind (arith, refused, found, new, kept))

  module _ (N : ℕ) (pairs : List (K × V)) (k : K) (content : IsContent eq N pairs) (p : K × V) (found : pair eq pairs k ≡ Some p) where
    -- a pair that was found goes last when it is taken out and put again
    pub put_found : put eq (take_out eq pairs k) p.0 p.1 ≡ used eq pairs k
    put_found = put_taken_out eq pairs k p content.lawful content.unique found
        ∙ sym (ap (λ o. option_map_or (λ e. take_out eq pairs k ++ e ∷ []) o pairs) found)

    -- for which there is room
    pub fits_found : (q : K) → IsTrue (fits eq N (take_out eq pairs k) q)
    fits_found q = grind (arith, nat_tests, length_take_out eq pairs k, at_pair eq pairs k, found, content.bounded)

-- the last N of a list
module _ {X : Type 0} (N : ℕ) where
  newest_all : (xs : List X) → length xs ≤ N → newest N xs ≡ xs
  newest_all xs within = let none : length xs - N ≡ 0 = omega (arith, within) in ap (λ n. drop n xs) none

  newest_more : (x : X) (xs : List X) → N ≤ length xs → newest N (x ∷ xs) ≡ newest N xs
  newest_more x xs past = let one : length (x ∷ xs) - N ≡ suc (length xs - N) = omega (arith, past) in ap (λ n. drop n (x ∷ xs)) one

  length_newest : (xs : List X) → length (newest N xs) ≤ N
  length_newest xs = omega (arith, length-drop (length xs - N) xs)

module _ {K V : Type 0} (eq : K → K → Bool) (laws : Lawful eq) where
  missing : (xs : List (K × V)) (k : K) → has eq xs k ≡ false → at eq xs k ≡ None
  missing xs k none = grind (arith, none)

  -- a key was used if there is a last use of it
  has_last : (xs : List (K × V)) (k : K) → has eq (last_uses eq xs) k ≡ has eq xs k
  has_last [] k = refl
  has_last (p ∷ xs) k = grind (arith, has_last xs k, has_alike eq p.0 k xs laws, (of_lawful eq laws).symm k p.0)

  has_push : (xs : List (K × V)) (p : K × V) (k : K) → has eq (xs ++ p ∷ []) k ≡ (eq k p.0 || has eq xs k)
  has_push [] p k = grind arith
  has_push (e ∷ xs) p k = grind (arith, has_push xs p k)

  -- a use is then the last of its key
  last_uses_push : (xs : List (K × V)) (p : K × V) → last_uses eq (xs ++ p ∷ []) ≡ take_out eq (last_uses eq xs) p.0 ++ p ∷ []
  unfolding take_out
  last_uses_push [] p = refl
  last_uses_push (e ∷ xs) p =
      grind (arith, last_uses_push xs p, has_push xs p e.0, (of_lawful eq laws).symm p.0 e.0, has_alike eq p.0 e.0 xs laws, has_last xs p.0, take_out_missing eq (last_uses eq xs) p.0)

  -- no key is equal to one behind it
  abbrev Apart : List (K × V) → Type 0
  Apart [] = Unit {0}
  Apart (p ∷ xs) = (has eq xs p.0 ≡ false) × Apart xs

  apart_last : (xs : List (K × V)) → Apart (last_uses eq xs)
  apart_last [] = tt
  apart_last (p ∷ xs) = elim (cases_Bool (has eq xs p.0)) [
    | inl again ↦ rw again (apart_last xs)
    | inr last ↦ rw last (has_last xs p.0 ∙ last, apart_last xs)
  ]

  -- pairs whose keys are distinct are the last of their keys
  last_of_unique : (xs : List (K × V)) → IsUnique eq xs → last_uses eq xs ≡ xs
  unfolding IsDistinct
  last_of_unique [] unique = refl
  last_of_unique (p ∷ xs) unique = rw (has_behind eq p xs laws unique) (ap (λ l. p ∷ l) (last_of_unique xs unique.1))

  pub kept : (N : ℕ) (xs : List (K × V)) → IsContent eq N xs → xs ≡ last_keys eq N xs
  kept N xs content = rw (last_of_unique xs content.unique) (sym (newest_all N xs content.bounded))

  -- a use of a key leaves the same of all the last uses as of the last N
  newest_push : (N : ℕ) (xs : List (K × V)) (k : K) (p : K × V) → Apart xs
      → newest N (take_out eq (newest N xs) k ++ p ∷ []) ≡ newest N (take_out eq xs k ++ p ∷ [])
  unfolding take_out
  newest_push N [] k p apart = ap (λ xs. newest N (take_out eq xs k ++ p ∷ [])) (drop_all {X = K × V} (0 - N) [] (omega arith))
  newest_push N (e ∷ xs) k p apart = elim (cases_lt (length xs) N) [
    | inl below ↦ rw (newest_all N (e ∷ xs) (omega (arith, below))) refl
    | inr above ↦ rw (newest_more N e xs above) (newest_push N xs k p apart.1 ∙ elim (cases_Bool (eq k e.0)) [
      | inl same ↦ rw same (ap (λ l. newest N (l ++ p ∷ [])) (take_out_missing eq xs k (missing xs k (has_alike eq k e.0 xs laws same ∙ apart.0))))
      | inr other ↦ rw other (sym (newest_more N e (take_out eq xs k ++ p ∷ []) (grind (arith, above, length_take_out eq xs k, length-append (take_out eq xs k) (p ∷ [])))))
    ])
  ]

  -- so it makes the same of the last N as of the uses
  used_last : (N : ℕ) (uses : List (K × V)) (p : K × V) → newest N (take_out eq (last_keys eq N uses) p.0 ++ p ∷ []) ≡ last_keys eq N (uses ++ p ∷ [])
  used_last N uses p = newest_push N (last_uses eq uses) p.0 p (apart_last uses) ∙ sym (ap (newest N) (last_uses_push uses p))

  put_newest : (N : ℕ) (pairs : List (K × V)) (k : K) (v : V) → length pairs ≤ N
      → put_last eq N pairs k v ≡ newest N (take_out eq pairs k ++ (k, v) ∷ [])
  put_newest N pairs k v bounded =
      let taken = length_take_out eq pairs k in
      let new = length-append (take_out eq pairs k) ((k, v) ∷ []) in
      elim (cases_Bool (fits eq N pairs k)) [
        | inl room ↦ rw room (sym (newest_all N _ (grind (arith, nat_tests, room, taken, new, bounded))))
        | inr full ↦ let over : 1 ≡ length (take_out eq pairs k ++ (k, v) ∷ []) - N = grind (arith, not_fits eq N pairs k full, taken, new, bounded) in
            rw full (ap (λ n. drop n (take_out eq pairs k ++ (k, v) ∷ [])) over)
      ]

  get_newest : (N : ℕ) (pairs : List (K × V)) (k : K) (p : K × V) → length pairs ≤ N → pair eq pairs k ≡ Some p
      → take_out eq pairs k ++ p ∷ [] ≡ newest N (take_out eq pairs p.0 ++ p ∷ [])
  get_newest N pairs k p bounded found =
      let taken = length_take_out eq pairs k in
      let new = length-append (take_out eq pairs k) (p ∷ []) in
      sym (newest_all N (take_out eq pairs k ++ p ∷ []) (grind (arith, taken, new, bounded, found, at_pair eq pairs k)))
      ∙ ap (λ l. newest N (l ++ p ∷ [])) (take_out_alike eq pairs k p.0 laws (pair_key eq pairs k p found))

  -- what a call makes of the cache
  pub after_put : (N : ℕ) (uses : List (K × V)) (k : K) (v : V) → put_last eq N (last_keys eq N uses) k v ≡ last_keys eq N (uses ++ (k, v) ∷ [])
  after_put N uses k v = put_newest N (last_keys eq N uses) k v (length_newest N (last_uses eq uses)) ∙ used_last N uses (k, v)

  after_get_of : (N : ℕ) (uses : List (K × V)) (k : K) (o : Option (K × V)) → pair eq (last_keys eq N uses) k ≡ o
      → option_map_or (λ p. take_out eq (last_keys eq N uses) k ++ p ∷ []) o (last_keys eq N uses) ≡ last_keys eq N (uses ++ option_to_list o)
  after_get_of N uses k None found = sym (ap (last_keys eq N) (append-nil uses))
  after_get_of N uses k (Some p) found = get_newest N (last_keys eq N uses) k p (length_newest N (last_uses eq uses)) found ∙ used_last N uses p

  pub after_get : (N : ℕ) (uses : List (K × V)) (k : K) → used eq (last_keys eq N uses) k ≡ last_keys eq N (uses ++ option_to_list (pair eq (last_keys eq N uses) k))
  after_get N uses k = after_get_of N uses k (pair eq (last_keys eq N uses) k) refl

  -- the uses of one more call
  uses_push : (N : ℕ) (done : List (K × V)) (calls : List (Call K V)) (call : Call K V)
      → uses eq N done (calls ++ call ∷ []) ≡ uses eq N done calls ++ option_to_list (used_by eq N (uses eq N done calls) call)
  uses_push N done [] call = refl
  uses_push N done (first ∷ calls) call = uses_push N (done ++ option_to_list (used_by eq N done first)) calls call

  pub uses_more : (N : ℕ) (done : List (K × V)) (calls : List (Call K V)) (i : ℕ) (call : Call K V) → i < length calls → call ≡ get_or calls i call
      → uses eq N done (take (i + 1) calls) ≡ (let so_far = uses eq N done (take i calls) in so_far ++ option_to_list (used_by eq N so_far call))
  uses_more N done calls i call within read = rw (take_more calls i call within, ← read) (uses_push N done (take i calls) call)
