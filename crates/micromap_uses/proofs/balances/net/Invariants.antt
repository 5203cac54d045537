use Rattle.std.specs.Prelude.{◌≡◌, ◌+ℤ◌, pos}
use Rattle.std.specs.Int.{saturate_signed, w64}
use Rattle.std.specs.List.{fold}
use Rattle.std.specs.Map.{values_of}
use Rattle.micromap_uses.proofs.balances.net.Given as goal

-- the amounts left, added to the total, make what all amounts make
abbrev pub invariant-loop-amount : goal.invariant-loop-amount
invariant-loop-amount l = fold (λ total amount. saturate_signed w64 (total +ℤ amount)) l.total l.amount-iterator
    ≡ fold (λ total amount. saturate_signed w64 (total +ℤ amount)) (pos 0) (values_of l.amounts)
