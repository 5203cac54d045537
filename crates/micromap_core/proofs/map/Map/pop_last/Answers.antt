use Rattle.std.proofs.Common.{arith, sym, ◌∙◌}
use Rattle.micromap_core.{specs.Pairs.without_at, proofs.Laws.Lists.remove_last}
use Rattle.micromap_core.proofs.map.Map.pop_last.Goals as goal

pub returns-in_default-clause-answer : goal.returns-in_default-clause-answer
returns-in_default-clause-answer g c = rw (← c.len.ensures.answer) (sym c.take_at.ensures.answer)

pub returns-in_default-clause-pairs : goal.returns-in_default-clause-pairs
unfolding without_at
returns-in_default-clause-pairs g c = rw (← c.len.ensures.answer)
    (c.take_at.ensures.pairs ∙ remove_last _ _ (omega (arith, c.len.ensures.answer)))
