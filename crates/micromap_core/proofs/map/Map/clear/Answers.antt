use Rattle.micromap_core.proofs.Laws.MapLemmas.{IsContent-nil}
use Rattle.micromap_core.proofs.map.Map.clear.Goals as goal

pub invariant_of-self : goal.invariant_of-self
invariant_of-self g c = rw c.clear.ensures (IsContent-nil g.K.PartialEq.eq g.row.N g.met.K.Eq.laws)

pub returns-clause-content : goal.returns-clause-content
returns-clause-content g c = (rw (← c.self.view_is) c.self.invariant, invariant_of-self g c)
