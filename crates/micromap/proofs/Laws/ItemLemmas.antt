-- For proofs: a set's items are the keys of its map. Each lemma says what a word on the map's pairs does to the keys.
use Rattle.std.proofs.Common.{◌≡◌, ℕ, ◌+◌, Bool, ◌&&◌, not, List, [], ◌∷◌, All, take, is_some, if◌then◌else◌, refl, ap, sym, subst, ◌∙◌}
use Rattle.std.proofs.Common.{arith, option_map}
use Rattle.std.specs.{List.AllZip, List.find, List.list_any, Set.remove_key, Set.swap_key}
use Rattle.std.specs.Map.{keys_of, lookup_entry, remove_entry, set_value, set_key}
use Rattle.std.proofs.lemmas.List.{get_or-map, length-map, map_push, take-map}
use Rattle.std.proofs.lemmas.{Map.keys-set_value, Map.Entries.length-keys_of, Map.Made.is_some-lookup}
use Rattle.micromap_core.specs.Build.{each_fits, pair_fits, put_all, put_pair, MisfitIn}
use Rattle.micromap_core.{specs.Clones.IsPairClone, proofs.Laws.MapLemmas.keys_of-put_stored, proofs.Laws.MapLemmas.keys_of-put_new}
use Rattle.micromap_core.specs.Pairs.{IsContent, fits, has, put, put_key, take_out}
use Rattle.micromap.specs.Extend.{put_all_items, ItemMisfitIn}
use Rattle.micromap.specs.Items.{IsItems, put_item, replace_item, item_fits, take_item}

-- an item is found exactly where one passes
pub is_some-find : {T : Type 0} (test : T → Bool) (items : List T) → is_some (find test items) ≡ list_any test items
is_some-find test [] = refl
is_some-find test (x ∷ items) = grind (arith, is_some-find test items)

module _ {T V : Type 0} where
  module _ (test : T → Bool) where
    pub find-keys : (pairs : List (T × V)) → find test (keys_of pairs) ≡ option_map (λ p. p.0) (lookup_entry test pairs)
    find-keys [] = refl
    find-keys (e ∷ es) = grind (arith, find-keys es)

    pub take-keys : (pairs : List (T × V)) → remove_key test (keys_of pairs) ≡ keys_of (remove_entry test pairs)
    take-keys [] = refl
    take-keys (e ∷ es) = grind (arith, take-keys es)

    swap-keys : (pairs : List (T × V)) (k : T) → swap_key test (keys_of pairs) k ≡ keys_of (set_key test pairs k)
    swap-keys [] k = refl
    swap-keys (e ∷ es) k = grind (arith, swap-keys es k)

  pub take_item-keys : (eq : T → T → Bool) (pairs : List (T × V)) (k : T) → take_item eq (keys_of pairs) k ≡ keys_of (take_out eq pairs k)
  unfolding take_item take_out
  take_item-keys eq pairs k = take-keys (eq k) pairs

  pub fits-keys : (eq : T → T → Bool) (N : ℕ) (pairs : List (T × V)) (k : T) → item_fits eq N (keys_of pairs) k ≡ fits eq N pairs k
  fits-keys eq N pairs k = grind (arith, is_some-lookup (eq k) pairs, length-keys_of pairs)

  module _ (eq : T → T → Bool) (k : T) (v : V) where
    pub replace_item-keys : (pairs : List (T × V)) → replace_item eq (keys_of pairs) k ≡ keys_of (put_key eq pairs k v)
    unfolding replace_item put_key
    replace_item-keys pairs = grind (
      arith,
      is_some-lookup (eq k) pairs,
      swap-keys (eq k) (set_value (eq k) pairs v) k,
      keys-set_value (eq k) pairs v,
      map_push (λ (e : T × V). e.0) pairs (k, v),
    )

    pub keys_put_item : (pairs : List (T × V)) → keys_of (put eq pairs k v) ≡ put_item eq (keys_of pairs) k
    unfolding put_item
    keys_put_item pairs = grind (arith, is_some-lookup (eq k) pairs, keys_of-put_stored eq pairs k v, keys_of-put_new eq pairs k v)

    -- where it fits, the item is added
    pub checked-keys : (N : ℕ) (pairs : List (T × V)) → (if item_fits eq N (keys_of pairs) k then put_item eq (keys_of pairs) k else keys_of
        pairs) ≡ keys_of (if fits eq N pairs k then put eq pairs k v else pairs)
    checked-keys N pairs = grind (arith, fits-keys eq N pairs k, keys_put_item pairs)

    -- where it is stored, nothing is changed
    pub tried-keys : (N : ℕ) (pairs : List (T × V)) → (if item_fits eq N (keys_of pairs) k then put_item eq (keys_of pairs) k else keys_of
        pairs) ≡ keys_of (if has eq pairs k then pairs else if fits eq N pairs k then put eq pairs k v else pairs)
    unfolding put_item
    tried-keys N pairs = grind (arith, checked-keys N pairs, is_some-lookup (eq k) pairs)

  -- the keys of a map once pairs are put are the items of a set once their keys are
  pub keys_put_all_items : (eq : T → T → Bool) (pairs items : List (T × V))
      → keys_of (put_all eq pairs items) ≡ put_all_items eq (keys_of pairs) (keys_of items)
  keys_put_all_items eq pairs [] = refl
  keys_put_all_items eq pairs (p ∷ items) = keys_put_all_items eq (put eq pairs p.0 p.1) items
      ∙ ap (λ keys. put_all_items eq keys (keys_of items)) (keys_put_item eq p.0 p.1 pairs)

-- pairs fit a map where their keys fit a set, and the first pair that doesn't is the first key that doesn't
module _ {T : Type 0} (eq : T → T → Bool) (N : ℕ) where
  abbrev items_fit : List T → List T → Bool
  items_fit = each_fits (item_fits eq N) (put_item eq)

  module _ {V : Type 0} where
    abbrev pairs_fit : List (T × V) → List (T × V) → Bool
    pairs_fit = each_fits (pair_fits eq N) (put_pair eq)

    each_fits-keys : (pairs items : List (T × V)) → items_fit (keys_of pairs) (keys_of items) ≡ pairs_fit pairs items
    each_fits-keys pairs [] = refl
    each_fits-keys pairs (p ∷ items) =
        let put_keys = sym (keys_put_item eq p.0 p.1 pairs) in
        let rest = ap (λ keys. items_fit keys (keys_of items)) put_keys ∙ each_fits-keys (put eq pairs p.0 p.1) items in
        ap (λ b. b && items_fit (put_item eq (keys_of pairs) p.0) (keys_of items))
        (fits-keys eq N pairs p.0) ∙ ap (λ b. fits eq N pairs p.0 && b) rest

    each_fits-take : (pairs items : List (T × V)) (n : ℕ)
        → items_fit (keys_of pairs) (take n (keys_of items)) ≡ pairs_fit pairs (take n items)
    each_fits-take pairs items n = ap (items_fit (keys_of pairs)) (take-map (λ p. p.0) n items) ∙ each_fits-keys pairs (take n items)

    pub misfit-keys : (pairs items : List (T × V)) (at : ℕ) → MisfitIn eq N pairs items at
        → ItemMisfitIn eq N (keys_of pairs) (keys_of items) at
    misfit-keys pairs items at misfit = (each_fits-take pairs items at ∙ misfit.0, ap not (each_fits-take pairs items (at + 1)) ∙ misfit.1)

-- what is cloned pair by pair is cloned key by key
pub zip-keys : {T V : Type 0} (C : T → T → Type 0) (D : V → V → Type 0) (ps qs : List (T × V))
    → AllZip (IsPairClone C D) ps qs → AllZip C (keys_of ps) (keys_of qs)
zip-keys C D [] [] zip = tt
zip-keys C D [] (q ∷ qs) zip = absurd zip
zip-keys C D (p ∷ ps) [] zip = absurd zip
zip-keys C D (p ∷ ps) (q ∷ qs) zip = (zip.0.0, zip-keys C D ps qs zip.1)

-- where each item can be cloned without a fault, each pair can
pub each_infallible : {T : Type 0} (P : T → Type 0) (pairs : List (T × Unit {0})) → All P (keys_of pairs)
    → All (λ p. P p.0 × Unit {0}) pairs
each_infallible P pairs every i p within =
    (subst P (get_or-map (λ e. e.0) pairs i p p.0 within) (every i p.0 (rw length-map within)), tt {0})

-- what a map may hold is, as its keys, what a set may hold
pub content_items : {T V : Type 0} {eq : T → T → Bool} {N : ℕ} {pairs : List (T × V)}
    {items : List T} → keys_of pairs ≡ items → IsContent eq N pairs → IsItems eq N items
content_items {pairs = pairs} seen content =
    rw (← seen) (record { unique = content.unique; bounded = rw (length-keys_of pairs) content.bounded; lawful = content.lawful })
