use Rattle.std.proofs.Common.{refl, None, Some}
use Rattle.micromap_examples.proofs.RecencyLemmas.{reads_last}
use Rattle.micromap_examples.proofs.lru_cache.LruCache.get.Goals as goal

-- the last pair has the value
pub returns-in_err-_key : goal.returns-in_err-_key
returns-in_err-_key g c =
    let used = c.if-not-renew.ensures in
    let value = reads_last g.K.PartialEq.eq c.self.inside.pairs c.renew.new.pairs c.args.key.now c.last.result None c.in_err-_key.was used.answer used.pairs c.last.ensures.answer in
    rw (← c.self.view_is, c.from_residual.ensures) ((refl, λ _. tt, used.pairs), record { pairs = tt; answer = value })

pub returns : goal.returns
returns g c =
    let used = c.if-not-renew.ensures in
    let value = reads_last g.K.PartialEq.eq c.self.inside.pairs c.renew.new.pairs c.args.key.now c.last.result (Some (c.in_ok-_key._key, c.in_ok-_key.value)) c.in_ok-_key.was used.answer used.pairs c.last.ensures.answer in
    rw (← c.self.view_is) ((refl, λ _. tt, used.pairs), record { pairs = tt; answer = value })
