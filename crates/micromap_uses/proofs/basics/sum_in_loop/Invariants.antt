use Rattle.std.specs.Prelude.{◌≡◌, ◌+◌, sum}
use Rattle.std.specs.Map.{values_of}
use Rattle.micromap_uses.proofs.basics.sum_in_loop.Given as goal

-- the total so far and the values left make the whole sum
abbrev pub invariant-loop-value : goal.invariant-loop-value
invariant-loop-value l = l.total + sum l.value-iterator ≡ sum (values_of l.map)
