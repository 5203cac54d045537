use Rattle.std.proofs.Common.{arith}
use Rattle.micromap_core.proofs.{Laws.ClosureLaws.keys_updated, Laws.MapLemmas.IsContent-same_keys}
use Rattle.micromap_core.proofs.map.Map.update_all.Goals as goal

pub update_all-requires : goal.update_all-requires
update_all-requires g c = (omega arith, rw c.self.view_is c.requires)

pub invariant_of-self : goal.invariant_of-self
invariant_of-self g c = IsContent-same_keys c.self.invariant _ (keys_updated c.update_all.ensures)

pub returns : goal.returns
returns g c = record {
  pairs = rw (← c.self.view_is) c.update_all.ensures;
  same_keys = rw (← c.self.view_is) (keys_updated c.update_all.ensures);
  content = (rw (← c.self.view_is) c.self.invariant, invariant_of-self g c);
}
