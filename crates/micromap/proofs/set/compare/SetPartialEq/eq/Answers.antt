use Rattle.std.specs.Cmp.{both_ways}
use Rattle.micromap.proofs.set.compare.SetPartialEq.eq.Goals as goal

pub returns-clause-answer : goal.returns-clause-answer
returns-clause-answer g c = both_ways c.eq_with.result _ c.eq_with.ensures.answer.0 c.eq_with.ensures.answer.1
