use Rattle.micromap.proofs.Laws.OperationSteps.{progress, second_gives}
use Rattle.micromap.proofs.set.operations.symmetric_difference.SymmetricDifferenceInSetSetIterator.next.Goals as goal

pub returns-in-None-clause-steps : goal.returns-in-None-clause-steps
returns-in-None-clause-steps g c = rw (← c.self.view_is) (second_gives g.T.PartialEq.eq _ _ _ c.in-None.ensures.steps
    c.next-in-None.ensures.steps)

pub returns-in-None-clause-goes : goal.returns-in-None-clause-goes
returns-in-None-clause-goes g c = progress _ _ _ _ _ _ (returns-in-None-clause-steps g c)
