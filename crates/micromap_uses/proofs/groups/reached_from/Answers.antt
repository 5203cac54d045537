use Rattle.std.proofs.Common.{arith}
use Rattle.micromap.proofs.Rules.{calls}
use Rattle.micromap_uses.proofs.groups.reached_from.Goals as goal

pub loop-node-preserved : goal.loop-node-preserved
loop-node-preserved c = record {
  start = grind (arith, calls);
  least = grind (arith, calls);
  bounded = grind (arith, calls);
}
