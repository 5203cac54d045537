use Rattle.std.specs.Prelude.{◌≡◌, drop}
use Rattle.micromap.specs.Build.{put_all}
use Rattle.micromap_uses.proofs.any_capacity.put_each.Given as goal

-- what is still to come, put over what the map has now, makes what all of it makes
abbrev pub invariant-loop-item : goal.invariant-loop-item
invariant-loop-item g l = put_all g.K.PartialEq.eq l.map (drop l.item-index l.items) ≡ put_all g.K.PartialEq.eq l.initial.map l.items
