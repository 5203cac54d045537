use Rattle.std.proofs.Common.{sym, ◌∙◌}
use Rattle.micromap_examples.proofs.RecencyLemmas.{put_found}
use Rattle.micromap_examples.proofs.lru_cache.renew.Goals as goal

-- the pair was found, so it is the last once it is put again
pub returns-in-Some-clause-pairs : goal.returns-in-Some-clause-pairs
returns-in-Some-clause-pairs g c =
    let taken = c.remove_entry.ensures in
    rw (c.insert.ensures.pairs, taken.pairs) (put_found g.K.PartialEq.eq g.row.N c.args.pairs.now c.args.key.now taken.content.0 (c.in-Some.stored, c.in-Some.value) (sym taken.answer ∙ c.in-Some.is))
