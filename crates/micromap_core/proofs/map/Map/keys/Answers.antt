use Rattle.std.specs.Map.Iter.{deref}
use Rattle.micromap_walk.proofs.Laws.Runs.{shows_in_order}
use Rattle.micromap_core.proofs.map.Map.keys.Goals as goal

pub returns-clause-runs : goal.returns-clause-runs
returns-clause-runs g c = shows_in_order deref
