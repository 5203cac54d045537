use Rattle.std.specs.Prelude.{◌≡◌, ◌-◌, ◌^◌, ◌≤◌, length, nat_eq}
use Rattle.micromap.specs.Build.{merged}
use Rattle.micromap.specs.Merges.{sum_up_to}
use Rattle.micromap_uses.proofs.merge.add_map.Given as goal

-- what the amounts that are left make of the sums is what all make of the totals
abbrev pub invariant-loop-number : goal.invariant-loop-number
invariant-loop-number l = (merged nat_eq (sum_up_to (2 ^ 32 - 1)) l.initial.sums l.amounts ≡ merged nat_eq (sum_up_to (2 ^ 32 - 1)) l.sums l.number-iterator)
    × (length l.sums ≤ 32)
