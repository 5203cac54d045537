use Rattle.micromap_core.proofs.Laws.KeyedLemmas.{runs_counted}
use Rattle.micromap.specs.Extend.{put_item_or_refuse}
use Rattle.micromap.proofs.Laws.ExtendLemmas.{items_keyed}
use Rattle.micromap.proofs.set.Set.from_all.Goals as goal

pub returns-then-extend_fitting-clause-built : goal.returns-then-extend_fitting-clause-built
returns-then-extend_fitting-clause-built g c =
    let ran = rw (c.new-whole.ensures.answer, c.if-extend_fitting.true) at c.extend_fitting.ensures.built in
    (ran.0, ran.1, ran.2.0)

pub returns-then-extend_fitting-clause-many : goal.returns-then-extend_fitting-clause-many
unfolding put_item_or_refuse
returns-then-extend_fitting-clause-many g c = runs_counted g.met.T.Eq.laws (items_keyed g.T.PartialEq.eq g.row.N)
    g.I.Iterator.next_gives c.args.items (returns-then-extend_fitting-clause-built g c)

pub returns-else-extend_fitting-clause-built : goal.returns-else-extend_fitting-clause-built
returns-else-extend_fitting-clause-built g c =
    let ran = rw (c.new-whole.ensures.answer, c.if-extend_fitting.false) at c.extend_fitting.ensures.built in
    (ran.0, ran.1, ran.2.0)

pub returns-else-extend_fitting-clause-many : goal.returns-else-extend_fitting-clause-many
unfolding put_item_or_refuse
returns-else-extend_fitting-clause-many g c = runs_counted g.met.T.Eq.laws (items_keyed g.T.PartialEq.eq g.row.N)
    g.I.Iterator.next_gives c.args.items (returns-else-extend_fitting-clause-built g c)
