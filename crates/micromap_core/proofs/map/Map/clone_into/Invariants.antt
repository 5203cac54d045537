use Rattle.std.specs.{List.AllZip, Prelude.take}
use Rattle.micromap_core.specs.Clones.{IsEqualClone, IsPairClone}
use Rattle.micromap_core.proofs.map.Map.clone_into.Given as goal

-- the map's pairs are the clones of the first ones, with keys equal to theirs
abbrev pub invariant-loop-index : goal.invariant-loop-index
invariant-loop-index g l = AllZip (IsPairClone (IsEqualClone g.K.PartialEq.eq g.C.CloneBy.is_made) g.D.CloneBy.is_made)
    (take l.index l.self) l.clone-inside.pairs
