use Rattle.std.proofs.Common.{◌≡◌, ◌≢◌, length, sym, ◌∙◌, rules, ne_eqb}
use Rattle.micromap_core.proofs.Laws.DistinctLemmas.{both_sides, not_both_sides}
use Rattle.micromap.proofs.Laws.OperationLaws.{members_answered}
use Rattle.micromap.proofs.set.Set.eq_with.Goals as goal

pub returns-then-len : goal.returns-then-len
returns-then-len g c =
    let long : length c.args.self.now ≡ length c.args.other.now = search rules in
    assumption (members_answered g.met.T.Eq.laws _ _ _ (c.all_are.ensures
    ∙ both_sides g.met.T.Eq.laws _ _ c.len.ensures.content.unique c.len-2.ensures.content.unique long))

pub returns-else-len : goal.returns-else-len
returns-else-len g c =
    let apart : length c.args.self.now ≢ length c.args.other.now = search rules in
    assumption (members_answered g.met.T.Eq.laws _ _ _ (ne_eqb c.len.result c.len-2.result c.if-len.false
    ∙ sym (not_both_sides g.met.T.Eq.laws _ _ c.len.ensures.content.unique c.len-2.ensures.content.unique apart)))
