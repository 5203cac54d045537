use Rattle.std.proofs.Common.{◌≡◌, ◌∙◌, refl, slice_get, subst, IfSome, Some, arith}
use Rattle.micromap_walk.specs.Closures.{AcceptsPair}
use Rattle.micromap_walk.proofs.Laws.ZipLemmas.{as_many_keys, as_many_values, get_zip, set_value_zip}
use Rattle.micromap_walk.proofs.slots.columns.Columns.visit_at.Goals as goal

pub below-requires : goal.below-requires
below-requires g c = rw c.len.ensures.answer (rw (as_many_values _ _ _ c.self.invariant c.self.view_is) at c.requires.within)

pub item_at-requires : goal.item_at-requires
item_at-requires g c = (omega arith, rw (as_many_keys _ _ _ c.self.invariant c.self.view_is) at c.requires.within)

pub item_at_mut-requires : goal.item_at_mut-requires
item_at_mut-requires g c = (omega arith, rw (as_many_values _ _ _ c.self.invariant c.self.view_is) at c.requires.within)

pub visit-requires : goal.visit-requires
visit-requires g c =
    let here : slice_get c.args.self.now c.args.index ≡ Some (c.item_at.result.now, c.item_at_mut.result.now) =
    rw (← c.self.view_is) (get_zip _ _ c.args.index _ _ c.item_at.ensures c.item_at_mut.ensures.answer) in
    let callable : AcceptsPair g.F.FnMut c.args.visit.now c.item_at.result.now c.item_at_mut.result.now =
    subst (λ o. IfSome o (λ p. AcceptsPair g.F.FnMut c.args.visit.now p.0 p.1)) here c.requires.callable in
    callable c.item_at.result refl c.item_at_mut.result refl

pub returns : goal.returns
returns g c =
    let here = get_zip _ _ c.args.index _ _ c.item_at.ensures c.item_at_mut.ensures.answer in
    record {
      pair = (c.item_at.result.now, c.item_at_mut.result.now);
      here = rw (← c.self.view_is) here;
      value = c.visit.new.arg3;
      called = record {
        key = _;
        shows = refl;
        called = record { value = _; shows = refl; left = _; called = c.visit.ensures; leaves = refl };
      };
      pairs = rw (← c.self.view_is) (set_value_zip _ _ c.args.index c.visit.new.arg3 c.self.invariant ∙ rw here refl);
    }
