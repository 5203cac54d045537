use Rattle.std.proofs.Common.{length, refl, arith, ap, sym, ◌∙◌}
use Rattle.micromap_core.proofs.Laws.StepsLemmas.{look_up_steps-bound, most_steps-product, most_steps, total_step, all_step}
use Rattle.micromap_core.proofs.map.Map.is_within_counted.Goals as goal

pub loop-key-init : goal.loop-key-init
loop-key-init g c = rw c.into_iter-key-iterator.ensures.into_iter_gives.0 (record {
  answer = refl;
  count = refl;
  bounded = omega (arith, most_steps-product c.args.self.now (length c.args.other.now));
})

pub returns-then-not-has_value_counted : goal.returns-then-not-has_value_counted
returns-then-not-has_value_counted g c = record {
  answer = sym (all_step g.K.PartialEq.eq g.V.PartialEq.eq c.args.other.now c.in-Some.ensures.steps
      c.if-not-has_value_counted.ensures.answer) ∙ c.loop-key.invariant.answer;
  count = omega (
    arith,
    c.loop-key.invariant.count,
    c.has_value_counted.ensures.count,
    total_step g.K.PartialEq.eq g.V.PartialEq.eq c.args.other.now c.in-Some.ensures.steps c.if-not-has_value_counted.ensures.answer,
  );
}

pub loop-key-preserved : goal.loop-key-preserved
loop-key-preserved g c = record {
  answer = sym (all_step g.K.PartialEq.eq g.V.PartialEq.eq c.args.other.now c.in-Some.ensures.steps
      c.if-not-has_value_counted.ensures.answer) ∙ c.loop-key.invariant.answer;
  count = omega (
    arith,
    c.loop-key.invariant.count,
    c.has_value_counted.ensures.count,
    total_step g.K.PartialEq.eq g.V.PartialEq.eq c.args.other.now c.in-Some.ensures.steps c.if-not-has_value_counted.ensures.answer,
  );
  bounded = omega (
    arith,
    c.loop-key.invariant.bounded,
    c.has_value_counted.ensures.count,
    look_up_steps-bound g.K.PartialEq.eq c.args.other.now c.in-Some.key.now,
    ap (λ l. most_steps l (length c.args.other.now)) c.in-Some.ensures.steps,
  );
}

pub has_value_counted-requires : goal.has_value_counted-requires
has_value_counted-requires g c = (
  assumption,
  omega (arith, c.requires, c.loop-key.invariant.bounded, ap (λ l. most_steps l (length c.args.other.now)) c.in-Some.ensures.steps),
)

pub returns : goal.returns
returns g c = record {
  answer = rw c.in-None.ensures.steps.0 at c.loop-key.invariant.answer;
  count = omega (arith, rw c.in-None.ensures.steps.0 at c.loop-key.invariant.count);
}
