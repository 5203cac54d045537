use Rattle.std.specs.Prelude.{length}
use Rattle.micromap.{specs.Operations.passes, proofs.Laws.OperationSteps.MeetsNone}
use Rattle.micromap.proofs.set.operations.next_where.Given as goal

-- no member is met yet
abbrev pub invariant-loop-x : goal.invariant-loop-x
invariant-loop-x g l = MeetsNone (passes g.T.PartialEq.eq l.wanted l.other) l.initial.rest l.rest

abbrev pub decreases-loop-x : goal.decreases-loop-x
decreases-loop-x g l = length l.rest
