-- Nested scopes with one more inside: what is visible there, and where a variable is assigned.
use Rattle.std.proofs.Common.{◌≡◌, ℕ, ℤ, List, [], ◌∷◌, ◌++◌, nat_eq, if◌then◌else◌, arith}
use Rattle.std.proofs.lemmas.Grind.{common_steps}
use Rattle.std.specs.Option.{option_or}
use Rattle.micromap.specs.Pairs.{at, has, put}
use Rattle.micromap_examples.specs.Frame.{assigned, visible}

pub visible_last : (scopes : List (List (ℕ × ℤ))) (inner : List (ℕ × ℤ)) (name : ℕ) → visible (scopes ++ inner ∷ []) name ≡ option_or (at nat_eq inner name) (visible scopes name)
visible_last [] inner name = grind (arith, common_steps)
visible_last (outer ∷ scopes) inner name = grind (arith, common_steps, visible_last scopes inner name)

pub assigned_last : (scopes : List (List (ℕ × ℤ))) (inner : List (ℕ × ℤ)) (name : ℕ) (v : ℤ) → assigned (scopes ++ inner ∷ []) name v ≡ (if has nat_eq inner name then scopes ++ put nat_eq inner name v ∷ [] else assigned scopes name v ++ inner ∷ [])
assigned_last [] inner name v = grind (arith, common_steps)
assigned_last (outer ∷ scopes) inner name v = grind (arith, common_steps, assigned_last scopes inner name v, visible_last scopes inner name)
