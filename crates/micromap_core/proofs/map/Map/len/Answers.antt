use Rattle.std.proofs.Common.{length, ap, ◌∙◌}
use Rattle.micromap_core.proofs.map.Map.len.Goals as goal

pub returns-clause-answer : goal.returns-clause-answer
returns-clause-answer g c = c.len.ensures.answer ∙ ap length c.self.view_is
