use Rattle.micromap_walk.proofs.Laws.ClosureLemmas.{Updating}
use Rattle.micromap_walk.proofs.slots.columns.Columns.update_all.Given as goal

abbrev pub invariant-loop-index : goal.invariant-loop-index
invariant-loop-index g l = Updating g.F.FnMut l.initial.update l.initial.self l.update l.self l.index
