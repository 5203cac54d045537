use Rattle.micromap_core.proofs.Laws.ClosureLemmas.{UpdatingKeys}
use Rattle.micromap_core.proofs.map.Map.update_disjoint.Given as goal

abbrev pub invariant-loop-position : goal.invariant-loop-position
invariant-loop-position g l = UpdatingKeys g.K.PartialEq.eq g.F.FnMut l.initial.update l.initial.self l.keys l.update l.self
    l.position l.found
