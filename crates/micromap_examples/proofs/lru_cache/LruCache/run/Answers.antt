use Rattle.std.proofs.Common.{take}
use Rattle.micromap.proofs.Laws.Equalities.{lawful}
use Rattle.micromap_examples.specs.Recency.{uses}
use Rattle.micromap_examples.proofs.RecencyLemmas.{kept, uses_more, after_get, after_put}
use Rattle.micromap_examples.proofs.lru_cache.LruCache.run.Goals.{in-Get, in-Put}
use Rattle.micromap_examples.proofs.lru_cache.LruCache.run.Goals as goal

-- what was there is what its own pairs leave
pub loop-call-init : goal.loop-call-init
loop-call-init g c = kept g.K.PartialEq.eq (lawful g.K.PartialEq.eq g.met.K.Eq.laws) g.row.N c.args.self.now c.len-known.ensures.content

-- one more call was made
pub loop-call-preserved : goal.loop-call-preserved
loop-call-preserved g c =
    let eq = g.K.PartialEq.eq in
    let laws = lawful g.K.PartialEq.eq g.met.K.Eq.laws in
    let done = uses g.K.PartialEq.eq g.row.N c.args.self.now (take c.loop-call.call-index c.args.calls.now) in
    let more = uses_more eq laws g.row.N c.args.self.now c.args.calls.now c.loop-call.call-index c.call-item.result c.loop-call-test.true c.call-item.is in
    elim c.match-call.branch [
      | in-Get w ↦ rw (more, w.in-Get.is, w.self-is, w.get.follows.holds-at-none, c.loop-call.invariant) (after_get eq laws g.row.N done w.in-Get.key)
      | in-Put w ↦ rw (more, w.in-Put.is, w.self-is, w.put.ensures.pairs, c.loop-call.invariant) (after_put eq laws g.row.N done w.in-Put.key w.in-Put.value)
    ]
