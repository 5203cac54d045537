use Rattle.std.proofs.Common.{arith}
use Rattle.micromap.{specs.Operations.difference_remaining, proofs.Laws.OperationSteps.length-parts}
use Rattle.micromap.proofs.Laws.OperationSteps.{length-difference}
use Rattle.micromap.proofs.set.operations.difference.DifferenceInSetIterator.size_hint.Goals as goal

pub returns-clause-lower : goal.returns-clause-lower
unfolding difference_remaining
returns-clause-lower g c = λ _. rw (← c.self.view_is)
    (omega (arith, length-difference g.met.T.Eq.laws c.self.inside.rest c.self.inside.other.now c.self.invariant))

pub returns-clause-upper : goal.returns-clause-upper
unfolding difference_remaining
returns-clause-upper g c = (
  tt {0},
  rw (← c.self.view_is) (omega (arith, length-parts g.T.PartialEq.eq c.self.inside.rest c.self.inside.other.now)),
)
