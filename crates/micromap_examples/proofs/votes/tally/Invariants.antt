use Rattle.std.specs.Prelude.{◌≡◌, nat_eq, take}
use Rattle.micromap.specs.Build.{counts}
use Rattle.micromap_examples.proofs.votes.tally.Given as goal

abbrev pub invariant-loop-name : goal.invariant-loop-name
invariant-loop-name g l = l.counts ≡ counts nat_eq (take l.name-index l.votes)
