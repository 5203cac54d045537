use Rattle.micromap.proofs.set.operations.difference_ref.DifferenceRefInRefSetRefIterator.next.Goals as goal

pub returns-in_err-item-clause-steps : goal.returns-in_err-item-clause-steps
returns-in_err-item-clause-steps g c = rw (c.from_residual.ensures, ← c.self.view_is)
    (record { member = c.in_err-item.ensures.steps.member; state = c.in_err-item.ensures.steps.state })
