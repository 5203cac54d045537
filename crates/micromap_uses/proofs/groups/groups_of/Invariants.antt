use Rattle.std.specs.Prelude.{◌≡◌, [], nat_eq, take}
use Rattle.micromap.specs.Build.{merged}
use Rattle.micromap.specs.Merges.{with_item}
use Rattle.micromap_uses.proofs.groups.groups_of.Given as goal

abbrev pub invariant-loop-group : goal.invariant-loop-group
invariant-loop-group l =
    l.groups ≡ merged nat_eq (with_item nat_eq 8) [] (take l.group-index l.list)
