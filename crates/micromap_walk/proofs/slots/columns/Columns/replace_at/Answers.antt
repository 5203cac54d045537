use Rattle.std.proofs.Common.{◌∙◌, ap, length-set, sym, Some, arith}
use Rattle.micromap_walk.proofs.Laws.ZipLemmas.{as_many_keys, as_many_values, get_zip, set_zip}
use Rattle.micromap_walk.proofs.slots.columns.Columns.replace_at.Goals as goal

pub below-requires : goal.below-requires
below-requires g c = rw c.len.ensures.answer (rw (as_many_values _ _ _ c.self.invariant c.self.view_is) at c.requires)

pub item_at_mut-requires : goal.item_at_mut-requires
item_at_mut-requires g c = (omega arith, rw (as_many_keys _ _ _ c.self.invariant c.self.view_is) at c.requires)

pub item_at_mut-requires-2 : goal.item_at_mut-requires-2
item_at_mut-requires-2 g c = (omega arith, rw (as_many_values _ _ _ c.self.invariant c.self.view_is) at c.requires)

pub invariant_of-self : goal.invariant_of-self
invariant_of-self g c = rw (c.replace.ensures.after, c.replace-2.ensures.after) (simp length-set c.self.invariant)

pub returns : goal.returns
returns g c = record {
  old = rw (← c.self.view_is) (get_zip _ _ c.args.index _ _ (c.item_at_mut.ensures.answer
      ∙ ap Some (sym c.replace.ensures.value)) (c.item_at_mut-2.ensures.answer ∙ ap Some (sym c.replace-2.ensures.value)));
  pairs = rw (c.replace.ensures.after, c.replace-2.ensures.after, ← c.self.view_is)
      (set_zip _ _ c.args.index c.args.key c.args.value c.self.invariant);
}
