use Rattle.micromap.proofs.{Laws.AddedItems.added_all, Laws.OperationLemmas.IsDistinct-symmetric_difference}
use Rattle.micromap.proofs.Laws.OperationSteps.{left_in_order}
use Rattle.micromap.proofs.set.Set.symmetric_difference.Goals as goal

pub returns-clause-unique : goal.returns-clause-unique
returns-clause-unique g c = IsDistinct-symmetric_difference g.met.T.Eq.laws _ _ c.difference.ensures.unique c.difference-2.ensures.unique

pub returns-clause-builds : goal.returns-clause-builds
returns-clause-builds g c = added_all g.met.T.Eq.laws _ (returns-clause-unique g c)

pub returns-clause-runs : goal.returns-clause-runs
returns-clause-runs g c = left_in_order _ _ _
