use Rattle.std.proofs.Common.{◌≤◌, length, refl, sym, ◌∙◌, arith, drop_of_length-le}
use Rattle.micromap_walk.proofs.Laws.Runs.{first_goes}
use Rattle.micromap_walk.proofs.owning.IntoIterIterator.next.Goals as goal

pub returns-then-index-len-clause-steps : goal.returns-then-index-len-clause-steps
returns-then-index-len-clause-steps g c =
    let none : length c.self.inside.keys.items ≤ c.self.inside.front = omega (arith, c.len.ensures.value) in
    rw (← c.self.view_is, drop_of_length-le c.self.inside.keys.items none) (refl, refl)

pub returns-then-index-len-clause-goes : goal.returns-then-index-len-clause-goes
returns-then-index-len-clause-goes g c = first_goes (λ p. p) _ _ _ (returns-then-index-len-clause-steps g c)

pub invariant_of-self : goal.invariant_of-self
invariant_of-self g c = record {
  keys = c.take_slot.ensures.filled;
  values = c.take_slot-2.ensures.filled;
  equal = c.take_slot.ensures.len ∙ c.self.invariant.equal ∙ sym c.take_slot-2.ensures.len;
  within = omega arith;
}

pub returns-clause-steps : goal.returns-clause-steps
returns-clause-steps g c = sym c.self.view_is ∙ rw (c.take_slot.ensures.items, c.take_slot-2.ensures.items) refl

pub returns-clause-goes : goal.returns-clause-goes
returns-clause-goes g c = first_goes (λ p. p) _ _ _ (returns-clause-steps g c)
