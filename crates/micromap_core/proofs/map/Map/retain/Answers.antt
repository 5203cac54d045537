use Rattle.micromap_core.proofs.{Laws.ClosureLaws.keys_in_order, Laws.ClosureLaws.shorter_retained, Laws.MapLemmas.IsContent-sublist}
use Rattle.micromap_core.proofs.map.Map.retain.Goals as goal

-- the keys that are kept are some of those before
pub invariant_of-self : goal.invariant_of-self
invariant_of-self g c = IsContent-sublist c.self.invariant _ (keys_in_order _ _ _ _ c.retain.ensures)

pub returns : goal.returns
returns g c = record {
  pairs = rw (← c.self.view_is) c.retain.ensures;
  order = rw (← c.self.view_is) (keys_in_order _ _ _ _ c.retain.ensures);
  shorter = rw (← c.self.view_is) (shorter_retained _ _ _ _ c.retain.ensures);
  content = (rw (← c.self.view_is) c.self.invariant, invariant_of-self g c);
}
