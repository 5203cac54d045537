-- What the examples of the files beside this one compare with, and the references that they show.
use Rattle.std.specs.Prelude.{ℕ, ◌/◌, Bool, nat_eq}
use Rattle.std.specs.Borrow.{Bor, MutBor}

-- whether the halves of two numbers, rounded down, are equal: an equality by which 2 and 3 are equal, and aren't the same
abbrev pub half_eq : ℕ → ℕ → Bool
half_eq m n = nat_eq (m / 2) (n / 2)

-- a `&` to x
abbrev pub ref_to : {X : Type 0} → X → Bor X
ref_to x = record { ref_ptr = (0, 0); now = x }

-- a `&mut` to x
abbrev pub mut_ref_to : {X : Type 0} → X → MutBor X
mut_ref_to x = record { ref_ptr = (0, 0); ghost_name = 0; now = x }
