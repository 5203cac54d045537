use Rattle.micromap.proofs.Laws.OperationSteps.{items_in_order}
use Rattle.micromap.proofs.set.operations.difference_ref.Set+ref+T+N.difference_ref.Goals as goal

pub returns-clause-runs : goal.returns-clause-runs
returns-clause-runs g c = items_in_order _ _
