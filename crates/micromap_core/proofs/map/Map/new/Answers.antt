use Rattle.micromap_core.proofs.Laws.MapLemmas.{IsContent-nil}
use Rattle.micromap_core.proofs.map.Map.new.Goals as goal

pub invariant_of-result : goal.invariant_of-result
invariant_of-result g c = rw c.new.ensures (IsContent-nil g.K.PartialEq.eq g.row.N g.met.K.Eq.laws)

pub returns-clause-content : goal.returns-clause-content
returns-clause-content g c = invariant_of-result g c
