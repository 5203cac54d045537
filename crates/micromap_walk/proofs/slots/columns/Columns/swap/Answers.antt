use Rattle.std.proofs.{Common.rules, lemmas.List.Edits.length-swap}
use Rattle.micromap_walk.proofs.Laws.ZipLemmas.{as_many_keys, as_many_values, zip_swap}
use Rattle.micromap_walk.proofs.slots.columns.Columns.swap.Goals as goal

pub swap-requires : goal.swap-requires
swap-requires g c =
    let long = as_many_keys _ _ _ c.self.invariant c.self.view_is in
    (search rules, (rw long at c.requires.a_in_bounds, rw long at c.requires.b_in_bounds))

pub swap-requires-2 : goal.swap-requires-2
swap-requires-2 g c =
    let long = as_many_values _ _ _ c.self.invariant c.self.view_is in
    (search rules, (rw long at c.requires.a_in_bounds, rw long at c.requires.b_in_bounds))

pub invariant_of-self : goal.invariant_of-self
invariant_of-self g c = rw (c.swap.ensures, c.swap-2.ensures) (simp length-swap c.self.invariant)

pub returns : goal.returns
returns g c = rw (c.swap.ensures, c.swap-2.ensures, ← c.self.view_is) (zip_swap _ _ c.args.a c.args.b c.self.invariant)
