use Rattle.std.proofs.Common.{◌∙◌, ap, is_some, refl}
use Rattle.micromap_walk.proofs.Laws.FilledLemmas.{item_at, items_of-map, length_filled, remove_filled, some_at, AreFilled-from}
use Rattle.micromap_walk.proofs.slots.Slots.remove.Goals as goal

pub into_item-requires : goal.into_item-requires
into_item-requires g c = ap is_some c.remove_slot.ensures.value ∙ some_at _ c.self.invariant _ _
    (rw (← length_filled _ c.self.invariant, c.self.view_is) c.requires)

pub invariant_of-self : goal.invariant_of-self
invariant_of-self g c = AreFilled-from _ _ (c.remove_slot.ensures.items ∙ remove_filled _ c.self.invariant c.args.index)

pub returns : goal.returns
returns g c = record {
  answer = rw (← c.self.view_is) (item_at _ c.self.invariant c.args.index _
      (rw (← length_filled _ c.self.invariant, c.self.view_is) c.requires) c.remove_slot.ensures.value ∙ c.into_item.ensures);
  items = rw (c.remove_slot.ensures.items, remove_filled _ c.self.invariant c.args.index, items_of-map, c.self.view_is) refl;
}
