use Rattle.std.proofs.Common.{◌∙◌}
use Rattle.micromap.proofs.Laws.OperationLemmas.{disjoint_answered, disjoint_turned}
use Rattle.micromap.proofs.set.Set.is_disjoint.Goals as goal

pub returns-then-len : goal.returns-then-len
returns-then-len g c = assumption (disjoint_answered g.met.T.Eq.laws c.args.self.now c.args.other.now c.all_are.ensures)

pub returns-else-len : goal.returns-else-len
returns-else-len g c = assumption (disjoint_answered g.met.T.Eq.laws c.args.self.now c.args.other.now
    (c.all_are-else-len.ensures ∙ disjoint_turned g.met.T.Eq.laws c.args.other.now c.args.self.now))
