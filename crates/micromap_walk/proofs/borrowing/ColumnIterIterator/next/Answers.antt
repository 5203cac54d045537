use Rattle.std.proofs.Common.{◌≡◌, [], ap, sym, ◌∙◌}
use Rattle.std.proofs.lemmas.List.{nil_from_length}
use Rattle.std.specs.Map.Iter.{deref}
use Rattle.micromap_walk.specs.Filled.{items_of}
use Rattle.micromap_walk.proofs.Laws.FilledLemmas.{first_some, items_first, rest_filled}
use Rattle.micromap_walk.proofs.Laws.Runs.{first_goes}
use Rattle.micromap_walk.proofs.borrowing.ColumnIterIterator.next.Goals as goal

pub returns-in_err-slot-clause-steps : goal.returns-in_err-slot-clause-steps
returns-in_err-slot-clause-steps g c =
    let none : c.args.self.now ≡ [] = sym c.self.view_is ∙ ap items_of (nil_from_length _ c.in_err-slot.ensures.steps.0) in
    rw (c.from_residual.ensures, c.in_err-slot.ensures.steps.1) (none, c.self.view_is ∙ none)

pub returns-in_err-slot-clause-goes : goal.returns-in_err-slot-clause-goes
returns-in_err-slot-clause-goes g c = first_goes deref _ _ _ (returns-in_err-slot-clause-steps g c)

pub item_of-requires : goal.item_of-requires
item_of-requires g c = first_some _ c.self.invariant _ _ c.in_ok-slot.ensures.steps

pub invariant_of-self : goal.invariant_of-self
invariant_of-self g c = rw c.in_err-slot.ensures.steps.1 c.self.invariant

pub invariant_of-self-2 : goal.invariant_of-self-2
invariant_of-self-2 g c = rest_filled _ c.self.invariant _ _ c.in_ok-slot.ensures.steps _ c.item_of.ensures

pub returns-clause-steps : goal.returns-clause-steps
returns-clause-steps g c = sym c.self.view_is ∙ items_first _ c.self.invariant _ _ c.in_ok-slot.ensures.steps _ c.item_of.ensures

pub returns-clause-goes : goal.returns-clause-goes
returns-clause-goes g c = first_goes deref _ _ _ (returns-clause-steps g c)
