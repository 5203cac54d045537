use Rattle.std.proofs.Common.{arith}
use Rattle.micromap.{specs.Operations.intersection_remaining, proofs.Laws.OperationSteps.length-intersection}
use Rattle.micromap.proofs.set.operations.intersection.IntersectionInSetIterator.size_hint.Goals as goal

pub returns-clause-upper : goal.returns-clause-upper
unfolding intersection_remaining
returns-clause-upper g c = (
  tt {0},
  rw (← c.self.view_is) (omega (arith, length-intersection g.met.T.Eq.laws c.self.inside.rest c.self.inside.other.now c.self.invariant)),
)
