-- A plan is each target with those that it needs. A target can be built once all that it needs are built.
use Rattle.std.specs.Prelude.{◌≡◌, ℕ, Bool, true, false, ◌&&◌, ◌||◌, not, List, [], ◌∷◌, Some, nat_eq, slice_get, take}
use Rattle.std.specs.List.{list_all, list_any}
use Rattle.std.specs.Option.{option_map_or}
use Rattle.std.specs.Set.{is_member}
use Rattle.micromap.specs.Pairs.{at}

-- whether a target of the plan needs none but those that are built
abbrev pub is_ready : List (ℕ × List ℕ) → List ℕ → ℕ → Bool
is_ready plan built target = option_map_or (list_all (is_member nat_eq built)) (at nat_eq plan target) false

-- whether a target of the plan needs one that isn't built
abbrev pub is_blocked : List (ℕ × List ℕ) → List ℕ → ℕ → Bool
is_blocked plan built target = option_map_or (list_any (λ need. not (is_member nat_eq built need))) (at nat_eq plan target) false

-- each target in the order is one of the plan, and comes after all that it needs
abbrev pub IsOrdered : List (ℕ × List ℕ) → List ℕ → Type 0
IsOrdered plan order = (index target : ℕ) → slice_get order index ≡ Some target → is_ready plan (take index order) target ≡ true

-- whether a target isn't built yet, and needs none but those that are
abbrev pub is_next : List ℕ → ℕ × List ℕ → Bool
is_next built p = not (is_member nat_eq built p.0) && list_all (is_member nat_eq built) p.1

-- whether a target of the plan needs another one
abbrev pub needs : List (ℕ × List ℕ) → ℕ → ℕ → Bool
needs plan a b = option_map_or (λ needs. is_member nat_eq needs b) (at nat_eq plan a) false

-- a needs the first target of the chain, each of the chain needs the next, and the last one needs b
abbrev pub IsChain : List (ℕ × List ℕ) → ℕ → List ℕ → ℕ → Type 0
IsChain plan a [] b = needs plan a b ≡ true
IsChain plan a (x ∷ chain) b = (needs plan a x ≡ true) × IsChain plan x chain b

-- a needs b, directly or by way of others
abbrev pub DependsOn : List (ℕ × List ℕ) → ℕ → ℕ → Type 0
DependsOn plan a b = (chain : List ℕ) × IsChain plan a chain b

-- whether one that is needed is the target, or one of those that were met
abbrev pub is_touched : ℕ → List ℕ → ℕ → Bool
is_touched target met need = nat_eq need target || is_member nat_eq met need

-- whether a target of the plan needs such a one
abbrev pub is_affected : List (ℕ × List ℕ) → ℕ → List ℕ → ℕ → Bool
is_affected plan target met x = option_map_or (list_any (is_touched target met)) (at nat_eq plan x) false

-- whether a target that wasn't met needs such a one
abbrev pub is_next_affected : ℕ → List ℕ → ℕ × List ℕ → Bool
is_next_affected target met p = not (is_member nat_eq met p.0) && list_any (is_touched target met) p.1
