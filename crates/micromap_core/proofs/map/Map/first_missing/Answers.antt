use Rattle.std.proofs.Common.{refl, sym, ◌∙◌}
use Rattle.micromap_core.proofs.map.Map.first_missing.Goals as goal
use Rattle.micromap_core.proofs.Laws.SameLemmas.{missing_step}

pub loop-key-init : goal.loop-key-init
loop-key-init g c = rw (c.into_iter-key-iterator.ensures.into_iter_gives, c.keys-key-items.ensures.answer) refl

pub returns-then-not-contains_key : goal.returns-then-not-contains_key
returns-then-not-contains_key g c = sym (missing_step g.K.PartialEq.eq c.args.other.now c.in-Some.ensures.steps
    c.if-not-contains_key.ensures.answer) ∙ c.loop-key.invariant

pub loop-key-preserved : goal.loop-key-preserved
loop-key-preserved g c = sym (missing_step g.K.PartialEq.eq c.args.other.now c.in-Some.ensures.steps
    c.if-not-contains_key.ensures.answer) ∙ c.loop-key.invariant
