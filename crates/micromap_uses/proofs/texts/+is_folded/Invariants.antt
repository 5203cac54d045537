use Rattle.std.specs.Prelude.{length}
use Rattle.micromap_uses.proofs.texts.+is_folded.Given as goal

abbrev pub decreases-is_folded : goal.decreases-is_folded
decreases-is_folded l = length l.text.now
