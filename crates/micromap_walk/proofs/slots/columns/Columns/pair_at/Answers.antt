use Rattle.std.proofs.Common.{rules}
use Rattle.micromap_walk.proofs.Laws.ZipLemmas.{as_many_keys, as_many_values, get_zip}
use Rattle.micromap_walk.proofs.slots.columns.Columns.pair_at.Goals as goal

pub item_at-requires : goal.item_at-requires
item_at-requires g c = (search rules, rw (as_many_keys _ _ _ c.self.invariant c.self.view_is) at c.requires)

pub item_at-requires-2 : goal.item_at-requires-2
item_at-requires-2 g c = (search rules, rw (as_many_values _ _ _ c.self.invariant c.self.view_is) at c.requires)

pub returns : goal.returns
returns g c = rw (← c.self.view_is) (get_zip _ _ c.args.index _ _ c.item_at.ensures c.item_at-2.ensures)
