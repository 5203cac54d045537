use Rattle.std.proofs.Common.{◌≡◌, false, length, refl, ap, sym, ◌∙◌, arith}
use Rattle.std.proofs.lemmas.List.{length_push}
use Rattle.micromap.{specs.Items.item_fits, proofs.Laws.SetLaws.not_item_fits}
use Rattle.micromap_core.proofs.Laws.PuttingLemmas.{putting_begins, putting_goes_on, runs_up_to, runs_whole}
use Rattle.micromap.proofs.set.Set.try_extend.Goals as goal

pub loop-x-init : goal.loop-x-init
loop-x-init g c = rw c.into_iter-x-iterator.ensures.into_iter_gives (record {
  can = c.requires.can;
  finite = c.requires.ends.0;
  counted = omega (arith, c.requires.ends.1);
  at = refl;
  put = putting_begins;
  content = c.len-known.ensures.content;
})

pub loop-x-preserved : goal.loop-x-preserved
loop-x-preserved g c =
    let l = c.loop-x in
    let goes = c.in-Some.ensures.goes.on l.invariant.finite in
    record {
      can = goes.0;
      finite = goes.1;
      counted = omega (arith, goes.2, l.invariant.counted);
      at = omega (arith, l.invariant.at, length_push l.yielded c.in-Some.x);
      put = putting_goes_on l.invariant.put c.in-Some.x c.put.ensures.items (sym c.put.ensures.answer ∙ c.if-not-put.false);
      content = c.put.ensures.content.1;
    }

-- the set is as it was before the item that didn't fit, and full
pub returns-then-not-put : goal.returns-then-not-put
returns-then-not-put g c =
    let l = c.loop-x in
    let eq = g.T.PartialEq.eq in
    let misfit : item_fits eq g.row.N l.self c.in-Some.x ≡ false = sym c.put.ensures.answer ∙ c.if-not-put.true in
    let kept : c.put.new.self ≡ l.self = rw misfit at c.put.ensures.items in
    let full : length l.self ≡ g.row.N =
    omega (arith, (not_item_fits eq l.self c.in-Some.x g.row.N misfit).1, l.invariant.content.bounded) in
    record {
      whole = tt;
      misfit = rw kept (runs_up_to l.invariant.put c.in-Some.x misfit g.I.Iterator.next_gives c.args.items c.next.new.self l.position
          l.invariant.at (rw (← c.into_iter-x-iterator.ensures.into_iter_gives) (l.x-iterator, l.yielded_by, c.in-Some.ensures.steps)));
      full = ap length kept ∙ full;
      content = (c.len-known.ensures.content, c.put.ensures.content.1);
    }

pub returns-clause-whole : goal.returns-clause-whole
returns-clause-whole g c = runs_whole c.loop-x.invariant.put g.I.Iterator.next_gives c.args.items
    (rw (← c.into_iter-x-iterator.ensures.into_iter_gives)
    (c.next.new.self, (c.loop-x.x-iterator, c.loop-x.yielded_by, c.in-None.ensures.steps)))
