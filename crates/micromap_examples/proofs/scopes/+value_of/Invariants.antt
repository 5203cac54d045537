use Rattle.std.specs.Prelude.{length}
use Rattle.micromap_examples.proofs.scopes.+value_of.Given as goal

abbrev pub decreases-value_of : goal.decreases-value_of
decreases-value_of l = length l.scopes.now
