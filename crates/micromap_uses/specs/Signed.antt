-- Words of signed amounts, as in `balances.rt`: sums and differences of 64 bits, and balances with more or less at a key.
use Rattle.std.specs.Prelude.{ℕ, ◌-◌, ◌^◌, ◌+ℤ◌, ◌-ℤ◌, ◌&&◌, Bool, nat_eq, int_lt, negsuc, not, pos, List, Option, Some, None, unwrap_or, ℤ, if◌then◌else◌}
use Rattle.std.specs.Int.{saturate_signed, w64}
use Rattle.std.specs.Option.{option_and_then, option_map}
use Rattle.micromap.specs.Pairs.{at, put}

-- a balance, 0 if there is none, with one amount more, or the end of the range of 64 bits
unfoldable pub balance_with : Option ℤ → ℤ → ℤ
balance_with balance amount = saturate_signed w64 (unwrap_or balance (pos 0) +ℤ amount)

-- whether a number is one of 64 bits with a sign
abbrev pub fits_64 : ℤ → Bool
fits_64 z = not (int_lt z (negsuc (2 ^ 63 - 1))) && int_lt z (pos (2 ^ 63))

-- the sum, or `None` if it doesn't fit
unfoldable pub checked_sum : ℤ → ℤ → Option ℤ
checked_sum a b = if fits_64 (a +ℤ b) then Some (a +ℤ b) else None

-- the difference, or `None` if it doesn't fit
unfoldable pub checked_difference : ℤ → ℤ → Option ℤ
checked_difference a b = if fits_64 (a -ℤ b) then Some (a -ℤ b) else None

-- the balances with more at a key, or `None` if it is missing or the sum doesn't fit
abbrev pub credited : List (ℕ × ℤ) → ℕ → ℤ → Option (List (ℕ × ℤ))
credited balances k amount = option_map (put nat_eq balances k) (option_and_then (λ b. checked_sum b amount) (at nat_eq balances k))

-- the balances with less at a key, or `None` if it is missing or the difference doesn't fit
abbrev pub debited : List (ℕ × ℤ) → ℕ → ℤ → Option (List (ℕ × ℤ))
debited balances k amount = option_map (put nat_eq balances k) (option_and_then (λ b. checked_difference b amount) (at nat_eq balances k))
