use Rattle.std.specs.{Prelude.filter, Prelude.length, List.AllZip}
use Rattle.micromap_walk.proofs.Laws.Walked.{Walked}
use Rattle.micromap.specs.Operations.{passes}
use Rattle.micromap.proofs.set.Set.clones_where.Given as goal

-- the set has the clones of the members given
abbrev pub invariant-loop-x : goal.invariant-loop-x
invariant-loop-x g l =
    let members = filter (passes g.T.PartialEq.eq l.wanted l.other) in
    Walked (members l.self) (members l.rest) (λ before. AllZip g.T.Clone.is_clone before l.kept)

abbrev pub decreases-loop-x : goal.decreases-loop-x
decreases-loop-x g l = length (filter (passes g.T.PartialEq.eq l.wanted l.other) l.rest)
