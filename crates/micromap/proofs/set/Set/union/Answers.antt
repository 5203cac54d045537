use Rattle.std.proofs.Common.{length, ap, arith, length-append}
use Rattle.micromap.specs.Operations.{difference_remaining, union_remaining}
use Rattle.micromap.proofs.{Laws.AddedItems.added_all, Laws.OperationSteps.left_in_order}
use Rattle.micromap.proofs.Laws.OperationLemmas.{IsDistinct-union}
use Rattle.micromap.proofs.set.Set.union.Goals as goal

pub returns-clause-bounded : goal.returns-clause-bounded
unfolding union_remaining
returns-clause-bounded g c = omega (
  arith,
  c.iter.ensures.content.bounded,
  ap length c.iter.ensures.answer,
  c.difference.ensures.bounded,
  length-append c.iter.result (difference_remaining g.T.PartialEq.eq c.difference.result),
)

pub returns-clause-unique : goal.returns-clause-unique
returns-clause-unique g c = IsDistinct-union g.met.T.Eq.laws _ _ c.iter.ensures.content.unique c.difference.ensures.unique

pub returns-clause-builds : goal.returns-clause-builds
returns-clause-builds g c = added_all g.met.T.Eq.laws _ (returns-clause-unique g c)

pub returns-clause-runs : goal.returns-clause-runs
returns-clause-runs g c = left_in_order _ _ _
