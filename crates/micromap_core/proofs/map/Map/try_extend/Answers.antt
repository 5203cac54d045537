use Rattle.std.proofs.Common.{◌≡◌, ◌∙◌, ap, arith, false, length, refl, sym}
use Rattle.std.proofs.lemmas.List.{length_push}
use Rattle.micromap_core.{specs.Pairs.fits, proofs.Laws.MapLaws.not_fits}
use Rattle.micromap_core.proofs.Laws.PuttingLemmas.{putting_begins, putting_goes_on, runs_up_to, runs_whole}
use Rattle.micromap_core.proofs.map.Map.try_extend.Goals as goal

pub loop-key-init : goal.loop-key-init
loop-key-init g c = rw c.into_iter-key-iterator.ensures.into_iter_gives (record {
  can = c.requires.can;
  finite = c.requires.ends.0;
  counted = omega (arith, c.requires.ends.1);
  at = refl;
  put = putting_begins;
  content = c.len-known.ensures.content;
})

pub loop-key-preserved : goal.loop-key-preserved
loop-key-preserved g c =
    let l = c.loop-key in
    let goes = c.in-Some.ensures.goes.on l.invariant.finite in
    record {
      can = goes.0;
      finite = goes.1;
      counted = omega (arith, goes.2, l.invariant.counted);
      at = omega (arith, l.invariant.at, length_push l.yielded (c.in-Some.key, c.in-Some.value));
      put = putting_goes_on l.invariant.put (c.in-Some.key, c.in-Some.value) c.put.ensures.pairs
          (sym c.put.ensures.answer ∙ c.if-not-put.false);
      content = c.put.ensures.content.1;
    }

-- the map is as it was before the item that didn't fit, and full
pub returns-then-not-put : goal.returns-then-not-put
returns-then-not-put g c =
    let l = c.loop-key in
    let eq = g.K.PartialEq.eq in
    let misfit : fits eq g.row.N l.self c.in-Some.key ≡ false = sym c.put.ensures.answer ∙ c.if-not-put.true in
    let kept : c.put.new.self ≡ l.self = rw misfit at c.put.ensures.pairs in
    let full : length l.self ≡ g.row.N = omega (arith, (not_fits eq g.row.N l.self c.in-Some.key misfit).1, l.invariant.content.bounded) in
    record {
      whole = tt;
      misfit = rw kept (runs_up_to l.invariant.put (
        c.in-Some.key,
        c.in-Some.value,
      ) misfit g.I.Iterator.next_gives c.args.items c.next.new.self l.position l.invariant.at
          (rw (← c.into_iter-key-iterator.ensures.into_iter_gives) (l.key-iterator, l.yielded_by, c.in-Some.ensures.steps)));
      full = ap length kept ∙ full;
      content = (c.len-known.ensures.content, c.put.ensures.content.1);
    }

pub returns-clause-whole : goal.returns-clause-whole
returns-clause-whole g c =
    let l = c.loop-key in
    runs_whole l.invariant.put g.I.Iterator.next_gives c.args.items
    (rw (← c.into_iter-key-iterator.ensures.into_iter_gives) (c.next.new.self, (l.key-iterator, l.yielded_by, c.in-None.ensures.steps)))
