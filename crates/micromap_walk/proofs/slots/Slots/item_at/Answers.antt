use Rattle.std.proofs.Common.{◌≡◌, ◌∙◌, ap, get_or, is_some}
use Rattle.micromap_walk.proofs.Laws.FilledLemmas.{item_at, length_filled, some_at}
use Rattle.micromap_walk.proofs.slots.Slots.item_at.Goals as goal

pub bounds-as_slice-index : goal.bounds-as_slice-index
bounds-as_slice-index g c = rw (c.as_slice.ensures.value, ← length_filled _ c.self.invariant, c.self.view_is) c.requires

pub item_of-requires : goal.item_of-requires
item_of-requires g c =
    let read = c.index-as_slice-index in
    let stands : read.result ≡ get_or c.self.inside.slots.items c.args.index read.result = rw c.as_slice.ensures.value at read.is in
    ap is_some stands ∙ some_at _ c.self.invariant _ _ (rw (← length_filled _ c.self.invariant, c.self.view_is) c.requires)

pub returns : goal.returns
returns g c = rw (← c.self.view_is) (item_at _ c.self.invariant c.args.index _
    (rw (← length_filled _ c.self.invariant, c.self.view_is) c.requires)
    (rw c.as_slice.ensures.value at c.index-as_slice-index.is) ∙ c.item_of.ensures)
