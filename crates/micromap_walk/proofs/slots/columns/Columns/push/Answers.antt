use Rattle.std.proofs.Common.{◌∙◌, sym, arith}
use Rattle.micromap_walk.proofs.Laws.ZipLemmas.{zip_append, as_many_keys, as_many_values, equal_push}
use Rattle.micromap_walk.proofs.slots.columns.Columns.push.Goals as goal

pub push-requires : goal.push-requires
push-requires g c = (omega arith, rw (as_many_keys _ _ _ c.self.invariant c.self.view_is) at c.requires)

pub equal-requires : goal.equal-requires
equal-requires g c = c.len.ensures.answer ∙ sym (as_many_values _ _ _ c.self.invariant c.self.view_is) ∙ sym c.len-len.ensures.answer

pub push-requires-2 : goal.push-requires-2
push-requires-2 g c = (omega arith, rw (as_many_values _ _ _ c.self.invariant c.self.view_is) at c.requires)

pub invariant_of-self : goal.invariant_of-self
invariant_of-self g c = rw (c.push.ensures, c.push-2.ensures) (equal_push _ _ _ _ c.self.invariant)

pub returns : goal.returns
returns g c = rw (c.push.ensures, c.push-2.ensures, ← c.self.view_is) (zip_append _ _ _ _ c.self.invariant)
