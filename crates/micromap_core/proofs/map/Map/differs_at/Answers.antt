use Rattle.std.proofs.Common.{Some, ap, ◌∙◌}
use Rattle.std.specs.Option.{option_or}
use Rattle.micromap_core.{specs.Same.first_missing, proofs.Laws.SameLemmas.answered_difference, proofs.Laws.SameLemmas.comparable}
use Rattle.micromap_core.proofs.map.Map.differs_at.Goals as goal

pub returns-in-Some : goal.returns-in-Some
returns-in-Some g c =
    let is = ap (λ d. option_or d (first_missing g.K.PartialEq.eq g.V.PartialEq.eq c.args.other.now c.args.self.now))
    c.in-Some.ensures.answer in
    assumption (answered_difference (comparable g.met.K.Eq.laws g.met.V.Eq.laws
    c.in-Some.ensures.content.unique c.len-known.ensures.content.unique) (Some c.in-Some.key) is)

pub returns-in-None : goal.returns-in-None
returns-in-None g c =
    let is = c.first_missing.ensures ∙ ap (λ d. option_or d
    (first_missing g.K.PartialEq.eq g.V.PartialEq.eq c.args.other.now c.args.self.now)) c.in-None.ensures.answer in
    assumption (answered_difference (comparable g.met.K.Eq.laws g.met.V.Eq.laws
    c.in-None.ensures.content.unique c.len-known.ensures.content.unique) c.first_missing.result is)
