use Rattle.std.proofs.Common.{sym, ◌∙◌}
use Rattle.micromap_core.proofs.Laws.SameLemmas.{unequal_step}
use Rattle.micromap_core.proofs.map.Map.first_unequal.Goals as goal

pub loop-key-preserved : goal.loop-key-preserved
loop-key-preserved g c = sym (unequal_step g.K.PartialEq.eq g.V.PartialEq.eq c.in-Some.key.now c.in-Some.value
    c.args.other.now c.in-Some.ensures.steps c.get.result c.get.ensures.answer c.if-ne.ensures) ∙ c.loop-key.invariant

pub returns-then-ne-clause-answer : goal.returns-then-ne-clause-answer
returns-then-ne-clause-answer g c = sym (unequal_step g.K.PartialEq.eq g.V.PartialEq.eq c.in-Some.key.now c.in-Some.value
    c.args.other.now c.in-Some.ensures.steps c.get.result c.get.ensures.answer c.if-ne.ensures) ∙ c.loop-key.invariant
