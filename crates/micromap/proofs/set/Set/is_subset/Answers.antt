use Rattle.std.proofs.Common.{◌<◌, length, sym, rules}
use Rattle.micromap_core.proofs.Laws.DistinctLemmas.{missing_in_shorter}
use Rattle.micromap.proofs.Laws.OperationLemmas.{subset_answered}
use Rattle.micromap.proofs.set.Set.is_subset.Goals as goal

pub returns-then-len : goal.returns-then-len
returns-then-len g c =
    let short : length c.args.other.now < length c.args.self.now = search rules in
    assumption (subset_answered g.met.T.Eq.laws _ _ (sym (missing_in_shorter g.met.T.Eq.laws _ _ c.len.ensures.content.unique short)))

pub returns : goal.returns
returns g c = assumption (subset_answered g.met.T.Eq.laws _ _ c.all_are.ensures)
