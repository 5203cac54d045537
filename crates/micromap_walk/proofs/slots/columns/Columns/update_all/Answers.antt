use Rattle.std.proofs.Common.{arith}
use Rattle.micromap_walk.proofs.Laws.ClosureLemmas.{asks_next, updates_next, update_ends}
use Rattle.micromap_walk.proofs.slots.columns.Columns.update_all.Goals as goal

pub visit_at-requires : goal.visit_at-requires
visit_at-requires g c = (
  assumption,
  (
    omega (arith, c.loop-index.invariant.whole, c.len-index-end.ensures.answer, c.loop-index-test.true),
    asks_next g.F.FnMut c.args.update c.args.self.now _ _ _ c.loop-index.invariant c.requires,
  ),
)

pub loop-index-preserved : goal.loop-index-preserved
loop-index-preserved g c = updates_next g.F.FnMut c.args.update c.args.self.now _ _ _ c.loop-index.invariant _ _ _ c.visit_at.ensures

pub returns : goal.returns
returns g c = update_ends g.F.FnMut c.args.update c.args.self.now _ _ _ c.loop-index.invariant
    (omega (arith, c.loop-index.invariant.whole, c.len-index-end.ensures.answer, c.loop-index-test.false))
