use Rattle.std.specs.Prelude.{◌≡◌, fold, length, nat_eq}
use Rattle.micromap.specs.Items.{put_item_if_fits}
use Rattle.micromap_uses.proofs.groups.pour.Given as goal

-- what is left, put over what the other set has now, makes what all of it makes
abbrev pub invariant-loop-item : goal.invariant-loop-item
invariant-loop-item l = fold (put_item_if_fits nat_eq 8) l.into l.from ≡ fold (put_item_if_fits nat_eq 8) l.initial.into l.initial.from

abbrev pub decreases-loop-item : goal.decreases-loop-item
decreases-loop-item l = length l.from
