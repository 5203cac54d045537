use Rattle.std.specs.Prelude.{length}
use Rattle.micromap_examples.proofs.scopes.+assign.Given as goal

abbrev pub decreases-assign : goal.decreases-assign
decreases-assign l = length l.scopes.now
