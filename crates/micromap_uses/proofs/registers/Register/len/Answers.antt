use Rattle.std.proofs.Common.{ap, length, ◌∙◌}
use Rattle.micromap_uses.proofs.registers.Register.len.Goals as goal

-- the map's pairs are those of the register
pub returns-clause-answer : goal.returns-clause-answer
returns-clause-answer g c = c.len.ensures.answer ∙ ap length c.self.view_is
