-- The value of an expression over the variables of a frame, and the variables of nested scopes, outermost first.
use Rattle.std.specs.Prelude.{ℕ, ℤ, List, Option, Some, None, nat_eq, if◌then◌else◌, option_and_then, option_map, [], ◌∷◌, is_some}
use Rattle.std.specs.Int.{w64, int_wrapping_add, int_wrapping_mul}
use Rattle.std.specs.Option.{option_or}
use Rattle.micromap.specs.Pairs.{at, fits, put, has}
use Rattle.micromap_examples.specs.declared.frame.Expression.{Expression}
use Rattle.micromap_examples.specs.declared.frame.Expression.TheVariants.{Number, Variable, Sum', Product', Let'}

-- the value of both, unless one has none
abbrev pub both : (ℤ → ℤ → ℤ) → Option ℤ → Option ℤ → Option ℤ
both f a b = option_and_then (λ x. option_map (f x) b) a

-- none, where a variable has no value or a scope has no room
abbrev pub value : (N : ℕ) → List (ℕ × ℤ) → Expression → Option ℤ
value N frame (Number n) = Some n
value N frame (Variable name) = at nat_eq frame name
value N frame (Sum' p a q b) = both (int_wrapping_add w64) (value N frame a) (value N frame b)
value N frame (Product' p a q b) = both (int_wrapping_mul w64) (value N frame a) (value N frame b)
value N frame (Let' name p bound q body) = option_and_then (λ v. if fits nat_eq N frame name then value N (put nat_eq frame name v) body else None) (value N frame bound)

-- the value of a variable in the innermost scope that has it
abbrev pub visible : List (List (ℕ × ℤ)) → ℕ → Option ℤ
visible [] name = None
visible (outer ∷ inner) name = option_or (visible inner name) (at nat_eq outer name)

-- the scopes with another value of a variable, in the innermost scope that has it
abbrev pub assigned : List (List (ℕ × ℤ)) → ℕ → ℤ → List (List (ℕ × ℤ))
assigned [] name v = []
assigned (outer ∷ inner) name v = if is_some (visible inner name) then outer ∷ assigned inner name v else (if has nat_eq outer name then put nat_eq outer name v else outer) ∷ inner
