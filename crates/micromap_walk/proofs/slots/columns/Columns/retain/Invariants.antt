use Rattle.micromap_walk.proofs.Laws.ClosureLemmas.{Retaining}
use Rattle.micromap_walk.proofs.slots.columns.Columns.retain.Given as goal

abbrev pub invariant-loop-index : goal.invariant-loop-index
invariant-loop-index g l = Retaining g.F.FnMut l.initial.keep l.initial.self l.keep l.self l.kept l.index
