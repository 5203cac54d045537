use Rattle.std.proofs.Common.{◌∙◌, sym, arith}
use Rattle.micromap_walk.proofs.Laws.ZipLemmas.{as_many_keys, as_many_values, equal_remove, get_zip, zip_remove}
use Rattle.micromap_walk.proofs.slots.columns.Columns.remove.Goals as goal

pub remove-key-requires : goal.remove-key-requires
remove-key-requires g c = (omega arith, rw (as_many_keys _ _ _ c.self.invariant c.self.view_is) at c.requires)

pub equal-requires : goal.equal-requires
equal-requires g c = c.len.ensures.answer ∙ sym (as_many_values _ _ _ c.self.invariant c.self.view_is) ∙ sym c.len-len.ensures.answer

pub remove-value-requires : goal.remove-value-requires
remove-value-requires g c = (omega arith, rw (as_many_values _ _ _ c.self.invariant c.self.view_is) at c.requires)

pub invariant_of-self : goal.invariant_of-self
invariant_of-self g c = rw (c.remove-key.ensures.items, c.remove-value.ensures.items) (equal_remove _ _ _ c.self.invariant)

pub returns : goal.returns
returns g c = record {
  answer = rw (← c.self.view_is) (get_zip _ _ c.args.index _ _ c.remove-key.ensures.answer c.remove-value.ensures.answer);
  pairs = rw (c.remove-key.ensures.items, c.remove-value.ensures.items, ← c.self.view_is) (zip_remove _ _ c.args.index c.self.invariant);
}
