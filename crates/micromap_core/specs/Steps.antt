-- How many keys a look-up compares, and a comparison of two lists of pairs. A step is one comparison of two keys.
use Rattle.std.specs.Prelude.{◌≡◌, ℕ, suc, Bool, not, List, [], ◌∷◌, length, nat_eq, refl, sum_by, take, if◌then◌else◌}
use Rattle.std.specs.List.{position_or_len}
use Rattle.std.specs.Option.{option_map_or}
use Rattle.micromap_core.specs.Pairs.{index_of}
use Rattle.micromap_core.specs.Same.{has_value}

module _ {K V : Type 0} (eq : K → K → Bool) where
  -- the steps of a look-up: the index of the key plus one, or the length where the key is missing
  abbrev pub look_up_steps : List (K × V) → K → ℕ
  look_up_steps pairs k = option_map_or suc (index_of eq pairs k) (length pairs)

-- at a stored key, at a missing one, and in an empty list
look_up_steps-stored : look_up_steps {V = ℕ} nat_eq ((5, 50) ∷ (6, 60) ∷ (7, 70) ∷ []) 6 ≡ 2
look_up_steps-stored = refl

look_up_steps-missing : look_up_steps {V = ℕ} nat_eq ((5, 50) ∷ (6, 60) ∷ (7, 70) ∷ []) 9 ≡ 3
look_up_steps-missing = refl

look_up_steps-empty : look_up_steps {V = ℕ} nat_eq [] 9 ≡ 0
look_up_steps-empty = refl

module _ {K V : Type 0} (eq : K → K → Bool) where
  module _ (same : V → V → Bool) (other : List (K × V)) where
    -- the pairs of a list through the first that has no equal one in the other
    abbrev pub looked_up : List (K × V) → List (K × V)
    looked_up pairs = take (suc (position_or_len (λ p. not (has_value eq same other p)) pairs)) pairs

    -- the steps of looking up the key of each of these in the other
    abbrev pub total_steps : List (K × V) → ℕ
    total_steps pairs = sum_by (λ p. look_up_steps eq other p.0) (looked_up pairs)

  -- the steps of a comparison of two lists: none where their lengths differ
  abbrev pub comparison_steps : (V → V → Bool) → List (K × V) → List (K × V) → ℕ
  comparison_steps same this other = if nat_eq (length this) (length other) then total_steps same other this else 0

-- of all pairs where each has an equal one, and of those through the first that has none
looked_up-all : looked_up nat_eq nat_eq ((2, 20) ∷ (1, 10) ∷ []) ((1, 10) ∷ (2, 20) ∷ []) ≡ (1, 10) ∷ (2, 20) ∷ []
looked_up-all = refl

looked_up-first : looked_up nat_eq nat_eq ((2, 20) ∷ (1, 11) ∷ []) ((1, 10) ∷ (2, 20) ∷ []) ≡ (1, 10) ∷ []
looked_up-first = refl

-- of the same pairs in another order, of lists whose first pairs differ, of lists of two lengths, and of empty lists
comparison_steps-order : comparison_steps nat_eq nat_eq ((1, 10) ∷ (2, 20) ∷ (3, 30) ∷ []) ((3, 30) ∷ (2, 20) ∷ (1, 10) ∷ []) ≡ 6
comparison_steps-order = refl

comparison_steps-first_differs : comparison_steps nat_eq nat_eq ((1, 10) ∷ (2, 20) ∷ []) ((1, 11) ∷ (2, 20) ∷ []) ≡ 1
comparison_steps-first_differs = refl

comparison_steps-lengths : comparison_steps nat_eq nat_eq ((1, 10) ∷ (2, 20) ∷ (3, 30) ∷ []) ((1, 10) ∷ (2, 20) ∷ []) ≡ 0
comparison_steps-lengths = refl

comparison_steps-empty : comparison_steps nat_eq nat_eq [] [] ≡ 0
comparison_steps-empty = refl
