use Rattle.std.specs.Prelude.{◌≡◌, ◌-◌, ◌^◌, ◌≤◌, length, nat_eq, take}
use Rattle.micromap.specs.Build.{merged}
use Rattle.micromap.specs.Merges.{sum_up_to}
use Rattle.micromap_uses.proofs.count.add_amounts.Given as goal

-- what is made so far is what the amounts that are done make
abbrev pub invariant-loop-number : goal.invariant-loop-number
invariant-loop-number l = (l.sums ≡ merged nat_eq (sum_up_to (2 ^ 32 - 1)) l.initial.sums (take l.number-index l.amounts))
    × (length l.sums ≤ 16)
