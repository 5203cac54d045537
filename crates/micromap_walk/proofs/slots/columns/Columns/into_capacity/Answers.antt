use Rattle.std.proofs.Common.{arith, rules}
use Rattle.micromap_walk.proofs.Laws.ZipLemmas.{as_many_keys}
use Rattle.micromap_walk.proofs.slots.columns.Columns.into_capacity.Goals as goal

pub into_capacity-requires : goal.into_capacity-requires
into_capacity-requires g c = (search rules, omega (arith, as_many_keys _ _ _ c.self.invariant c.self.view_is, c.requires))

pub into_capacity-requires-2 : goal.into_capacity-requires-2
into_capacity-requires-2 g c = (
  search rules,
  omega (arith, as_many_keys _ _ _ c.self.invariant c.self.view_is, c.requires, c.self.invariant),
)
