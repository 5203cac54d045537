use Rattle.std.proofs.Common.{◌-◌, ◌∙◌, arith, length, length-take, sym}
use Rattle.micromap_walk.proofs.Laws.ZipLemmas.{as_many_keys, as_many_values, zip_take}
use Rattle.micromap_walk.proofs.slots.columns.Columns.drop_last.Goals as goal

pub equal-requires : goal.equal-requires
equal-requires g c = c.len.ensures.answer ∙ sym (as_many_values _ _ _ c.self.invariant c.self.view_is) ∙ sym c.len-2.ensures.answer

pub drop_last-requires : goal.drop_last-requires
drop_last-requires g c = (omega arith, rw (as_many_keys _ _ _ c.self.invariant c.self.view_is) at c.requires)

pub drop_last-requires-2 : goal.drop_last-requires-2
drop_last-requires-2 g c = (omega arith, rw (as_many_values _ _ _ c.self.invariant c.self.view_is) at c.requires)

pub invariant_of-self : goal.invariant_of-self
invariant_of-self g c =
    let ks = c.self.inside.keys in
    let vs = c.self.inside.values in
    rw (c.drop_last.ensures, c.drop_last-2.ensures)
    (omega (arith, length-take (length ks - 1) ks, length-take (length vs - 1) vs, c.self.invariant))

pub returns : goal.returns
returns g c = rw (
  c.drop_last.ensures,
  c.drop_last-2.ensures,
  ← c.self.invariant,
  ← as_many_keys _ _ _ c.self.invariant c.self.view_is,
  ← c.self.view_is,
) (zip_take _ _ _)
