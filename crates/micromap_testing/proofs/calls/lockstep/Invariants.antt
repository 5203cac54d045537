use Rattle.std.proofs.Common.{map, drop}
use Rattle.micromap_testing.specs.Lockstep.{call_of}
use Rattle.micromap_testing.proofs.LockstepLemmas.{Leads}
use Rattle.micromap_testing.proofs.calls.lockstep.Given as goal

abbrev pub invariant-loop-call : goal.invariant-loop-call
invariant-loop-call g l =
    Leads g.K.PartialEq.eq g.V.PartialEq.eq g.row.N g.row.M l.first l.second l.agreed (map call_of (drop l.call-index l.calls)) l.fn.first l.fn.second (map call_of l.calls)
