use Rattle.micromap_walk.proofs.Laws.Runs.{gives_in_order}
use Rattle.micromap_core.proofs.map.Map.into_keys.Goals as goal

pub returns-clause-runs : goal.returns-clause-runs
returns-clause-runs g c = gives_in_order
