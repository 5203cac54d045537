use Rattle.micromap_core.proofs.{Laws.FairLemmas.compared_long, Laws.FairLemmas.compared_short, Laws.SameLemmas.none_unequal}
use Rattle.micromap_core.proofs.map.Map.eq_with.Goals as goal

pub returns-then-len : goal.returns-then-len
returns-then-len g c =
    let holds = none_unequal g.K.PartialEq.eq g.V.PartialEq.eq c.args.self.now c.args.other.now
    c.first_unequal.result c.first_unequal.ensures.answer c.is_none.result c.is_none.ensures in
    assumption (compared_long g.met.V.Eq.laws c.len.ensures.content c.len-2.ensures.content
    c.len.ensures.answer c.len-2.ensures.answer c.if-len.true holds)

pub returns-else-len : goal.returns-else-len
returns-else-len g c = assumption (compared_short g.met.V.Eq.laws c.len.ensures.content c.len-2.ensures.content
    c.len.ensures.answer c.len-2.ensures.answer c.if-len.false)
