use Rattle.micromap_core.proofs.Laws.MapLemmas.{IsContent-with_value_at}
use Rattle.std.proofs.Common.{refl, arith}
use Rattle.micromap_core.proofs.map.Map.value_at_mut.Goals as goal

pub invariant_of-self-lent : goal.invariant_of-self-lent
invariant_of-self-lent g c w = IsContent-with_value_at c.self.invariant c.args.index w

pub value_at_mut-requires : goal.value_at_mut-requires
value_at_mut-requires g c = (omega arith, rw c.self.view_is c.requires)

pub returns : goal.returns
returns g c = (
  (refl, λ w. rw (← c.self.view_is) refl),
  record {
    writes_back = tt;
    value = rw (← c.self.view_is) c.value_at_mut.ensures.value;
    content = λ v. rw (← c.self.view_is) (IsContent-with_value_at c.self.invariant c.args.index v);
  },
)
