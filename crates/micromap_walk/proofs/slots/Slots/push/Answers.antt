use Rattle.std.proofs.Common.{◌∙◌, refl}
use Rattle.micromap_walk.proofs.Laws.FilledLemmas.{items_of-map, push_filled, AreFilled-from}
use Rattle.micromap_walk.proofs.slots.Slots.push.Goals as goal

pub invariant_of-self : goal.invariant_of-self
invariant_of-self g c = AreFilled-from _ _ (c.push.ensures.items ∙ push_filled _ c.self.invariant c.args.item)

pub returns : goal.returns
returns g c = rw (c.push.ensures.items, push_filled _ c.self.invariant c.args.item, items_of-map, c.self.view_is) refl
