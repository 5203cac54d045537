use Rattle.std.proofs.Common.{◌∙◌, refl}
use Rattle.micromap_walk.proofs.Laws.FilledLemmas.{item_at, items_of-map, length_filled, set_filled}
use Rattle.micromap_walk.proofs.slots.Slots.item_at_mut.Goals as goal

-- the slot has the item at the index, and a write there writes that item
pub returns : goal.returns
returns g c =
    let stands = item_at _ c.self.invariant c.args.index c.in-Some.slot.now
    (rw (← length_filled _ c.self.invariant, c.self.view_is) c.requires) c.in-Some.ensures.value in (
      (refl, λ w. rw (set_filled _ c.self.invariant c.args.index w, items_of-map, c.self.view_is) refl),
      record {
        writes_back = tt;
        answer = rw (← c.self.view_is) (stands ∙ c.item_of_mut.ensures.answer);
      },
    )
