use Rattle.std.proofs.Common.{Some, length, ap, sym, ◌∙◌}
use Rattle.std.proofs.lemmas.Map.Entries.{length-values_of}
use Rattle.micromap_walk.proofs.owning.IntoValuesIterator.size_hint.Goals as goal

pub returns-clause-exact : goal.returns-clause-exact
returns-clause-exact g c = c.size_hint.ensures.exact ∙ ap (λ n. (n, Some n)) (sym (length-values_of _) ∙ ap length c.self.view_is)
