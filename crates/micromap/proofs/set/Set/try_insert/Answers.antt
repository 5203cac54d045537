use Rattle.std.proofs.Common.{ap, sym, ◌∙◌}
use Rattle.std.specs.Map.{keys_of}
use Rattle.micromap.proofs.Laws.ItemLemmas.{tried-keys}
use Rattle.micromap.proofs.set.Set.try_insert.Goals as goal

pub returns-clause-items : goal.returns-clause-items
returns-clause-items g c =
    let tried = tried-keys g.T.PartialEq.eq c.args.item (tt {0}) g.row.N c.self.inside.map in
    rw (← c.self.view_is) (ap keys_of c.try_insert.ensures.pairs ∙ sym tried)
