use Rattle.std.{proofs.Common.arith, proofs.Common.rules, specs.Fn.CalledAt, specs.Fn.TakesAt}
use Rattle.micromap_core.proofs.{Laws.ClosureLaws.retained_keys, Laws.SublistLaws.length-sublist}
use Rattle.micromap.proofs.Laws.RetainItems.{callable_inner}
use Rattle.micromap.proofs.set.Set.retain.Goals as goal

pub retain-requires : goal.retain-requires
retain-requires g c = (
  omega arith,
  let may = callable_inner _ (CalledAt g.F.FnMut) (λ f. f.0.now) (λ f x v b w t said. search rules)
      (TakesAt g.F.FnMut) _ _ (rw (← c.self.view_is) at c.requires) in
      record {
        at = λ before after s x v parts calls key shows value is. may.at before after s x v parts calls key shows;
      },
)

pub returns-clause-items : goal.returns-clause-items
returns-clause-items g c = rw (← c.self.view_is)
    (retained_keys (CalledAt g.F.FnMut) (λ f. f.0.now) (λ f x v b w t said. search rules) _ _ _ c.retain.ensures.pairs)

pub returns-clause-order : goal.returns-clause-order
returns-clause-order g c = rw (← c.self.view_is) c.retain.ensures.order

pub returns-clause-shorter : goal.returns-clause-shorter
returns-clause-shorter g c = length-sublist _ _ (returns-clause-order g c)
