use Rattle.std.proofs.Common.{◌-◌, length, ap, sym, ◌∙◌}
use Rattle.std.specs.Map.{keys_of}
use Rattle.std.proofs.lemmas.{List.take-map, Map.Entries.length-keys_of}
use Rattle.micromap.proofs.set.Set.pop_last.Goals as goal

pub returns-clause-items : goal.returns-clause-items
returns-clause-items g c =
    let pairs = c.self.inside.map in
    rw (← c.self.view_is, length-keys_of pairs) (ap keys_of c.pop_last.ensures.pairs ∙ sym (take-map (λ p. p.0) (length pairs - 1) pairs))
