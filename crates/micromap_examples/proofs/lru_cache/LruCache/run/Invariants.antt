use Rattle.std.proofs.Common.{◌≡◌, take}
use Rattle.micromap_examples.specs.Recency.{last_keys, uses}
use Rattle.micromap_examples.proofs.lru_cache.LruCache.run.Given as goal

-- what the calls so far leave
abbrev pub invariant-loop-call : goal.invariant-loop-call
invariant-loop-call g l = l.self ≡ last_keys g.K.PartialEq.eq g.row.N (uses g.K.PartialEq.eq g.row.N l.fn.self (take l.call-index l.calls))
