use Rattle.std.specs.Prelude.{◌≡◌, count_by, nat_eq, take, unwrap_or}
use Rattle.micromap.specs.Pairs.{at}
use Rattle.micromap_failures.proofs.limits.search_gives_up.Given as goal

-- each name has the number of its votes so far
abbrev pub invariant-loop-vote : goal.invariant-loop-vote
invariant-loop-vote l =
    (name : _) → unwrap_or (at nat_eq l.counts name) 0 ≡ count_by (nat_eq name) (take l.vote-index l.votes)
