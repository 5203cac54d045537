use Rattle.std.proofs.Common.{sym, ◌∙◌}
use Rattle.micromap.proofs.Laws.OperationSteps.{meets_none, walk_meets_none, walk_gives}
use Rattle.micromap.proofs.set.operations.next_where.Goals as goal

pub returns-then-is_wanted : goal.returns-then-is_wanted
returns-then-is_wanted g c = walk_gives _ c.loop-x.invariant c.in-Some.ensures.steps (sym c.is_wanted.ensures ∙ c.if-is_wanted.true)

pub loop-x-preserved : goal.loop-x-preserved
loop-x-preserved g c = meets_none _ c.loop-x.invariant c.in-Some.ensures.steps (sym c.is_wanted.ensures ∙ c.if-is_wanted.false)

pub returns : goal.returns
returns g c = walk_meets_none _ c.loop-x.invariant c.in_default.ensures.steps.0 c.in_default.ensures.steps.1
