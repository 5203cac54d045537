-- For proofs: a set's items as the pairs of its map, and what is read back of them.
use Rattle.std.proofs.Common.{◌≡◌, ℕ, Bool, List, [], ◌∷◌, Result, Ok, refl, ap}
use Rattle.std.specs.{Map.keys_of, Result.result_map_both}
use Rattle.std.proofs.lemmas.Map.Entries.{length-keys_of}
use Rattle.micromap_core.specs.Pairs.{IsContent}
use Rattle.micromap.specs.{SetStream.entries_of, Items.IsItems}

module _ {T : Type 0} where
  pub entries_of-keys : (pairs : List (T × Unit {0})) → entries_of (keys_of pairs) ≡ pairs
  entries_of-keys [] = refl
  entries_of-keys (p ∷ pairs) = ap (λ l. p ∷ l) (entries_of-keys pairs)

  pub keys_of-entries : (items : List T) → keys_of (entries_of items) ≡ items
  keys_of-entries [] = refl
  keys_of-entries (x ∷ items) = ap (λ l. x ∷ l) (keys_of-entries items)

  -- what a map reads back, a set does
  pub items_read_back : {F : Type 0} {eq : T → T → Bool} {N : ℕ} {same : Type 0}
      (r : Result (List (T × Unit {0})) F) (pairs : List (T × Unit {0}))
      → (IsContent eq N pairs → same → r ≡ Ok pairs) → IsItems eq N (keys_of pairs) → same
      → result_map_both keys_of (λ e. e) r ≡ Ok (keys_of pairs)
  items_read_back r pairs read items same = ap (result_map_both keys_of (λ e. e))
      (read (record { unique = items.unique; bounded = rw (length-keys_of pairs) at items.bounded; lawful = items.lawful }) same)
