use Rattle.std.proofs.Common.{arith}
use Rattle.micromap_core.proofs.Laws.MapLemmas.{IsContent-remove}
use Rattle.micromap_core.specs.Pairs.{without_at}
use Rattle.micromap_core.proofs.map.Map.take_at.Goals as goal

pub remove-requires : goal.remove-requires
remove-requires g c = (omega arith, rw c.self.view_is c.requires)

pub invariant_of-self : goal.invariant_of-self
invariant_of-self g c = rw c.remove.ensures.pairs (IsContent-remove c.self.invariant c.args.index c.remove.result c.remove.ensures.answer)

pub returns : goal.returns
unfolding without_at
returns g c = record {
  answer = rw (← c.self.view_is) c.remove.ensures.answer;
  pairs = rw (← c.self.view_is) c.remove.ensures.pairs;
  content = invariant_of-self g c;
}
