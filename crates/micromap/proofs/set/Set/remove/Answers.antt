use Rattle.std.proofs.Common.{is_some, ap, ◌∙◌}
use Rattle.micromap.proofs.Laws.ItemLemmas.{is_some-find}
use Rattle.micromap.proofs.set.Set.remove.Goals as goal

pub returns-clause-answer : goal.returns-clause-answer
returns-clause-answer g c = c.is_some.ensures ∙ ap is_some c.take.ensures.answer ∙ is_some-find _ c.args.self.now
