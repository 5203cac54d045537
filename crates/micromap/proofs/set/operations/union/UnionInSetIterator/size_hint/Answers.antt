use Rattle.std.proofs.lemmas.List.{length-append}
use Rattle.micromap.{specs.Operations.union_remaining, proofs.Laws.OperationSteps.lower_sum, proofs.Laws.OperationSteps.upper_sum}
use Rattle.micromap.proofs.set.operations.union.UnionInSetIterator.size_hint.Goals as goal

pub returns-clause-upper : goal.returns-clause-upper
unfolding union_remaining
returns-clause-upper g c = rw (← c.self.view_is, c.hint_of_both.ensures)
    (upper_sum _ _ _ _ _ c.size_hint.ensures.upper c.size_hint-2.ensures.upper (length-append _ _))

pub returns-clause-lower : goal.returns-clause-lower
unfolding union_remaining
returns-clause-lower g c = λ _. rw (← c.self.view_is, c.hint_of_both.ensures)
    (lower_sum (c.size_hint.ensures.lower tt) (c.size_hint-2.ensures.lower tt) (length-append _ _))
