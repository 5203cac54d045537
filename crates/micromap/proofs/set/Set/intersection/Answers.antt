use Rattle.micromap_core.proofs.Laws.SublistLaws.{IsDistinct-filter}
use Rattle.micromap.specs.Operations.{intersection_remaining}
use Rattle.micromap.proofs.Laws.AddedItems.{added_all, length-passing}
use Rattle.micromap.proofs.Laws.OperationSteps.{left_in_order}
use Rattle.micromap.proofs.set.Set.intersection.Goals as goal

pub returns-clause-bounded : goal.returns-clause-bounded
unfolding intersection_remaining
returns-clause-bounded g c = length-passing c.iter.ensures.content c.iter.ensures.answer _

pub returns-clause-unique : goal.returns-clause-unique
returns-clause-unique g c = IsDistinct-filter g.T.PartialEq.eq _ _ c.iter.ensures.content.unique

pub returns-clause-builds : goal.returns-clause-builds
returns-clause-builds g c = added_all g.met.T.Eq.laws _ (returns-clause-unique g c)

pub returns-clause-runs : goal.returns-clause-runs
returns-clause-runs g c = left_in_order _ _ _
