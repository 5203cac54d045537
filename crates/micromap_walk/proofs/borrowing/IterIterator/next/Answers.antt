use Rattle.std.proofs.Common.{refl, sym, ◌∙◌}
use Rattle.std.specs.Map.Iter.{deref_pair}
use Rattle.micromap_walk.proofs.Laws.Runs.{first_goes}
use Rattle.micromap_walk.proofs.borrowing.IterIterator.next.Goals as goal

pub returns-clause-steps : goal.returns-clause-steps
returns-clause-steps g c =
    let value = rw c.into_item-value.ensures at c.next-2.ensures.steps in
    sym c.self.view_is ∙ rw (c.in_ok-key.ensures.steps, value) refl

pub returns-clause-goes : goal.returns-clause-goes
returns-clause-goes g c = first_goes deref_pair _ _ _ (returns-clause-steps g c)
