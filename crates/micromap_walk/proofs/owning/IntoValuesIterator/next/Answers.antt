use Rattle.std.proofs.Common.{ap, sym, ◌∙◌}
use Rattle.std.specs.Map.{values_of}
use Rattle.micromap_walk.proofs.Laws.Runs.{first_goes}
use Rattle.micromap_walk.proofs.owning.IntoValuesIterator.next.Goals as goal

pub returns-in_err-_key-clause-steps : goal.returns-in_err-_key-clause-steps
returns-in_err-_key-clause-steps g c =
    rw c.from_residual.ensures (sym c.self.view_is ∙ ap values_of c.in_err-_key.ensures.steps.0, ap values_of c.in_err-_key.ensures.steps.1)

pub returns-in_err-_key-clause-goes : goal.returns-in_err-_key-clause-goes
returns-in_err-_key-clause-goes g c = first_goes (λ p. p) _ _ _ (returns-in_err-_key-clause-steps g c)

pub returns-clause-steps : goal.returns-clause-steps
returns-clause-steps g c = sym c.self.view_is ∙ ap values_of c.in_ok-_key.ensures.steps

pub returns-clause-goes : goal.returns-clause-goes
returns-clause-goes g c = first_goes (λ p. p) _ _ _ (returns-clause-steps g c)
