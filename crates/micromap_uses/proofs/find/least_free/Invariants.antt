use Rattle.std.specs.Prelude.{◌≡◌, ◌≤◌, ◌-◌, nat_eq, not}
use Rattle.std.specs.List.{find, range_with_len}
use Rattle.std.specs.Set.{is_member}
use Rattle.micromap_uses.proofs.find.least_free.Given as goal

-- the first of all is the first of those that are left
abbrev pub invariant-loop-number : goal.invariant-loop-number
invariant-loop-number l = (find (λ n. not (is_member nat_eq l.used n)) (range_with_len 0 255)
    ≡ find (λ n. not (is_member nat_eq l.used n)) (range_with_len l.number-counter (255 - l.number-counter)))
    × (l.number-counter ≤ 255)
