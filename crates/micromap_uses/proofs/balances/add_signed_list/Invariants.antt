use Rattle.std.specs.Prelude.{◌≡◌, ◌≤◌, length, nat_eq, take}
use Rattle.micromap.specs.Build.{merged}
use Rattle.micromap_uses.specs.Signed.{balance_with}
use Rattle.micromap_uses.proofs.balances.add_signed_list.Given as goal

abbrev pub invariant-loop-account : goal.invariant-loop-account
invariant-loop-account l = (l.sums ≡ merged nat_eq balance_with l.initial.sums (take l.account-index l.amounts))
    × (length l.sums ≤ 16)
