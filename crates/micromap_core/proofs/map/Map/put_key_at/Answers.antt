use Rattle.micromap_core.proofs.Laws.MapLemmas.{found_at, IsContent-set_key}
use Rattle.std.proofs.Common.{sym, ◌∙◌, arith}
use Rattle.micromap_core.proofs.map.Map.put_key_at.Goals as goal

pub replace_at-requires : goal.replace_at-requires
replace_at-requires g c = (
  omega arith,
  (found_at (g.K.PartialEq.eq c.args.key) c.self.inside.pairs c.args.index (rw c.self.view_is c.requires)).within,
)

pub invariant_of-self : goal.invariant_of-self
invariant_of-self g c =
    let found = found_at (g.K.PartialEq.eq c.args.key) c.self.inside.pairs c.args.index (rw c.self.view_is c.requires) in
    rw c.replace_at.ensures.pairs (IsContent-set_key c.self.invariant c.args.index found.pair c.args.key c.args.value found.here
    found.passes)

pub returns-clause-old : goal.returns-clause-old
returns-clause-old g c =
    let found = found_at (g.K.PartialEq.eq c.args.key) c.self.inside.pairs c.args.index (rw c.self.view_is c.requires) in
    rw (← c.self.view_is) (found.entry ∙ sym found.here ∙ c.replace_at.ensures.old)

pub returns-clause-content : goal.returns-clause-content
returns-clause-content g c = invariant_of-self g c
