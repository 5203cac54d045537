use Rattle.std.proofs.Common.{◌∙◌, refl, arith}
use Rattle.micromap_walk.proofs.Laws.ZipLemmas.{as_many_values, set_value_zip, value_zip}
use Rattle.micromap_walk.proofs.slots.columns.Columns.value_at_mut.Goals as goal

pub below-requires : goal.below-requires
below-requires g c = rw c.len.ensures.answer (rw (as_many_values _ _ _ c.self.invariant c.self.view_is) at c.requires)

pub item_at_mut-requires : goal.item_at_mut-requires
item_at_mut-requires g c = (omega arith, rw (as_many_values _ _ _ c.self.invariant c.self.view_is) at c.requires)

pub returns : goal.returns
returns g c = (
  (refl, λ w. rw (← c.self.view_is) (set_value_zip _ _ c.args.index w c.self.invariant)),
  record {
    writes_back = tt;
    value = rw (← c.self.view_is) (value_zip _ _ c.args.index c.self.invariant ∙ c.item_at_mut.ensures.answer);
  },
)
