use Rattle.std.specs.Cmp.{both_ways}
use Rattle.std.proofs.lemmas.Bool.{OnTrue_at, true_from_ne_false}
use Rattle.micromap_core.proofs.Laws.FairLaws.{none_tells_apart}
use Rattle.micromap_core.proofs.map.compare.MapPartialEq.eq.Goals as goal

pub returns-clause-answer : goal.returns-clause-answer
returns-clause-answer g c = both_ways c.eq_with.result _ c.eq_with.ensures.answer.0 c.eq_with.ensures.answer.1

pub returns-clause-none_tells_apart : goal.returns-clause-none_tells_apart
returns-clause-none_tells_apart g c = (
  λ yes. none_tells_apart g.K.PartialEq.eq g.V.PartialEq.eq g.row.N c.args.self.now c.args.other.now
      (OnTrue_at yes c.eq_with.ensures.outlasts),
  λ none. true_from_ne_false c.eq_with.result (λ no. let apart = c.eq_with.ensures.told_apart.0 no in apart.differ (none apart.calls)),
)
