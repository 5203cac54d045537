use Rattle.std.proofs.Common.{Some, length, ap, sym, ◌∙◌}
use Rattle.std.proofs.lemmas.Map.Entries.{length-keys_of}
use Rattle.micromap_walk.proofs.owning.IntoKeysIterator.size_hint.Goals as goal

pub returns-clause-exact : goal.returns-clause-exact
returns-clause-exact g c = c.size_hint.ensures.exact ∙ ap (λ n. (n, Some n)) (sym (length-keys_of _) ∙ ap length c.self.view_is)
