use Rattle.std.specs.Prelude.{◌≡◌, ◌+◌, sum}
use Rattle.std.specs.Map.{values_of}
use Rattle.micromap_failures.proofs.loops.sum_in_loop.Given as goal

-- the total so far and the amounts left make the whole sum
abbrev pub invariant-loop-amount : goal.invariant-loop-amount
invariant-loop-amount l = l.total + sum l.amount-iterator ≡ sum (values_of l.amounts)
