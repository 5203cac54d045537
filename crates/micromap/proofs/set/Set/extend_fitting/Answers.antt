use Rattle.std.proofs.{Common.sym, Math.Bool.and_comm}
use Rattle.micromap_core.proofs.Laws.PuttingLemmas.{putting_begins, putting_goes_on}
use Rattle.micromap.proofs.set.Set.extend_fitting.Goals as goal

pub loop-x-init : goal.loop-x-init
loop-x-init g c = rw c.into_iter-x-iterator.ensures.into_iter_gives (record {
  can = c.requires.can;
  finite = c.requires.ends;
  put = putting_begins;
  content = c.len-known.ensures.content;
})

pub loop-x-preserved : goal.loop-x-preserved
loop-x-preserved g c =
    let l = c.loop-x in
    let goes = c.in-Some.ensures.goes.on l.invariant.finite in
    record {
      can = goes.0;
      finite = goes.1;
      put = rw (and_comm l.all_fit c.put-all_fit.result)
          (putting_goes_on l.invariant.put _ c.put-all_fit.ensures.items (sym c.put-all_fit.ensures.answer));
      content = c.put-all_fit.ensures.content.1;
    }
