use Rattle.std.proofs.Common.{[], arith, sym}
use Rattle.std.proofs.{Math.Bool.and_comm, lemmas.List.length_push}
use Rattle.micromap_core.proofs.{Laws.CountLemmas.counted_low, Laws.KeyedLemmas.counts_keyed, Laws.KeyedLemmas.runs_counted}
use Rattle.micromap_core.proofs.Laws.PuttingLemmas.{putting_begins, putting_goes_on}
use Rattle.micromap_core.proofs.map.build.Map+K+usize+N.counts_of.Goals as goal

pub loop-item-init : goal.loop-item-init
loop-item-init g c = rw (c.into_iter-item-iterator.ensures.into_iter_gives, c.new-counts.ensures.answer) (record {
  can = c.requires.can;
  finite = c.requires.ends.0;
  few = omega (arith, c.requires.ends.1);
  put = putting_begins;
  content = rw (← c.new-counts.ensures.answer) c.new-counts.ensures.content;
})

pub count-all_fit-requires : goal.count-all_fit-requires
count-all_fit-requires g c =
    let l = c.loop-item in
    let low = counted_low g.K.PartialEq.eq g.row.N l.invariant.content.lawful [] l.yielded c.in-Some.item in
    omega (arith, rw (← l.invariant.put.made) at low, l.invariant.few)

pub loop-item-preserved : goal.loop-item-preserved
loop-item-preserved g c =
    let l = c.loop-item in
    let goes = c.in-Some.ensures.goes.on l.invariant.finite in
    record {
      can = goes.0;
      finite = goes.1;
      few = omega (arith, goes.2, l.invariant.few, length_push l.yielded c.in-Some.item);
      put = rw (and_comm l.all_fit c.count-all_fit.result) (putting_goes_on l.invariant.put c.in-Some.item c.count-all_fit.ensures.counts
          (sym c.count-all_fit.ensures.answer));
      content = c.count-all_fit.ensures.content;
    }

pub returns-then-all_fit-clause-many : goal.returns-then-all_fit-clause-many
returns-then-all_fit-clause-many g c =
    let l = c.loop-item in
    runs_counted g.met.K.Eq.laws (counts_keyed g.K.PartialEq.eq g.row.N) g.I.Iterator.next_gives c.args.items (
      l.yielded,
      λ _. rw (← c.into_iter-item-iterator.ensures.into_iter_gives) (c.next.new.self, (l.item-iterator, l.yielded_by, c.in-None.ensures.steps)),
      rw c.if-all_fit.true at l.invariant.put.all,
    )

pub returns-else-all_fit-clause-many : goal.returns-else-all_fit-clause-many
returns-else-all_fit-clause-many g c =
    let l = c.loop-item in
    runs_counted g.met.K.Eq.laws (counts_keyed g.K.PartialEq.eq g.row.N) g.I.Iterator.next_gives c.args.items (
      l.yielded,
      λ _. rw (← c.into_iter-item-iterator.ensures.into_iter_gives) (c.next.new.self, (l.item-iterator, l.yielded_by, c.in-None.ensures.steps)),
      rw c.if-all_fit.false at l.invariant.put.all,
    )
