use Rattle.std.proofs.{Common.sym, Math.Bool.and_comm}
use Rattle.micromap_core.proofs.Laws.PuttingLemmas.{putting_begins, putting_goes_on}
use Rattle.micromap_core.proofs.map.Map.extend_fitting.Goals as goal

pub loop-key-init : goal.loop-key-init
loop-key-init g c = rw c.into_iter-key-iterator.ensures.into_iter_gives (record {
  can = c.requires.can;
  finite = c.requires.ends;
  put = putting_begins;
  content = c.len-known.ensures.content;
})

pub loop-key-preserved : goal.loop-key-preserved
loop-key-preserved g c =
    let l = c.loop-key in
    let goes = c.in-Some.ensures.goes.on l.invariant.finite in
    record {
      can = goes.0;
      finite = goes.1;
      put = rw (and_comm l.all_fit c.put-all_fit.result) (putting_goes_on l.invariant.put (c.in-Some.key, c.in-Some.value)
          c.put-all_fit.ensures.pairs (sym c.put-all_fit.ensures.answer));
      content = c.put-all_fit.ensures.content.1;
    }
