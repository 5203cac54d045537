use Rattle.std.proofs.Common.{arith, ◌+◌, ◌*◌, ◌^◌, ◌<◌, ◌≤◌, length, subst, sym, ◌∙◌}
use Rattle.micromap_core.proofs.Laws.FairLemmas.{compared_long, compared_short}
use Rattle.micromap_core.proofs.Laws.StepsLemmas.{comparison_long, comparison_short, total_steps-square}
use Rattle.micromap_core.proofs.map.Map.eq_with_counted.Goals as goal

pub returns-then-len : goal.returns-then-len
returns-then-len g c =
    let one = c.len.ensures.answer in
    let two = c.len-2.ensures.answer in
    let steps = comparison_long g.K.PartialEq.eq g.V.PartialEq.eq c.args.self.now c.args.other.now one two c.if-len.true in
    let most = total_steps-square g.K.PartialEq.eq g.V.PartialEq.eq c.args.other.now c.args.self.now (sym one ∙ c.if-len.true ∙ two) in
    let bounded : c.is_within_counted.new.steps ≤ c.args.steps.now + length c.args.self.now * length
    c.args.self.now = omega (arith, c.is_within_counted.ensures.count, most) in
    let all = compared_long g.met.V.Eq.laws c.len.ensures.content c.len-2.ensures.content one two
    c.if-len.true c.is_within_counted.ensures.answer in
    record {
      answer = all.0;
      told_apart = all.2;
      outlasts = all.3;
      count = rw (← steps) at c.is_within_counted.ensures.count;
      bounded = bounded;
    }

pub returns-else-len : goal.returns-else-len
returns-else-len g c =
    let one = c.len.ensures.answer in
    let two = c.len-2.ensures.answer in
    let steps = comparison_short g.K.PartialEq.eq g.V.PartialEq.eq c.args.self.now c.args.other.now one two c.if-len.false in
    let all = compared_short g.met.V.Eq.laws c.len.ensures.content c.len-2.ensures.content one two c.if-len.false in
    record {
      answer = all.0;
      told_apart = all.2;
      outlasts = all.3;
      count = omega (arith, steps);
      bounded = omega arith;
    }

pub is_within_counted-requires : goal.is_within_counted-requires
is_within_counted-requires g c =
    let same = sym c.len.ensures.answer ∙ c.if-len.true ∙ c.len-2.ensures.answer in (
      assumption,
      omega (arith, subst (λ n. c.args.steps.now + length c.args.self.now * n < 2 ^ 128) same c.requires),
    )
