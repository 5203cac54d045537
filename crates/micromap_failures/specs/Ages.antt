-- A word of ages.
use Rattle.std.specs.Prelude.{ℕ, Bool, if◌then◌else◌, nat_eq, nat_le, true}

-- whether an age is at least a limit, where 0 is no limit
unfoldable pub is_of_age : ℕ → ℕ → Bool
is_of_age limit age = if nat_eq limit 0 then true else nat_le limit age
