use Rattle.std.proofs.Common.{arith}
use Rattle.micromap_core.proofs.map.Map.pair_at.Goals as goal

pub pair_at-requires : goal.pair_at-requires
pair_at-requires g c = (omega arith, rw c.self.view_is c.requires)

pub returns : goal.returns
returns g c = rw (← c.self.view_is) c.pair_at.ensures
