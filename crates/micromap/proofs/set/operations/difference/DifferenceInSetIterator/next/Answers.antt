use Rattle.micromap.specs.Operations.{difference_remaining, difference_advanced}
use Rattle.micromap.proofs.Laws.OperationSteps.{distinct_after, progress}
use Rattle.micromap.proofs.set.operations.difference.DifferenceInSetIterator.next.Goals as goal

pub invariant_of-self : goal.invariant_of-self
invariant_of-self g c = distinct_after g.T.PartialEq.eq _ _ _ c.self.invariant c.next_where.ensures.state

pub returns-clause-steps : goal.returns-clause-steps
unfolding difference_remaining difference_advanced
returns-clause-steps g c = rw (← c.self.view_is) (record {
  member = c.next_where.ensures.member;
  state = λ i. record { rest = c.next_where.ensures.state i; other = c.self.inside.other.now };
})

pub returns-clause-goes : goal.returns-clause-goes
returns-clause-goes g c = progress _ _ _ _ _ _ (returns-clause-steps g c)
