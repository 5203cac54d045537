use Rattle.std.proofs.Common.{◌≡◌, ◌-◌, ◌∙◌, ap, arith, length, refl, rules, take_all}
use Rattle.std.proofs.lemmas.Slice.Zip.{all_zipped_more, AllZip-long}
use Rattle.arrayvec.specs.Iter.{drain_items}
use Rattle.micromap_walk.proofs.Laws.FilledLemmas.{first_some, items_first, rest_filled}
use Rattle.micromap_walk.specs.Filled.{items_of}
use Rattle.micromap_walk.proofs.Laws.FilledLemmas.{items_of-map, length_filled, push_filled, AreFilled-from}
use Rattle.micromap_walk.proofs.Laws.Walked.{walk_begins, walk_ends, walk_goes_on, walk_within}
use Rattle.micromap_walk.proofs.slots.Slots.converted.Goals as goal

pub loop-slot-init : goal.loop-slot-init
loop-slot-init g c =
    let slots = c.into_array_vec-filled.result.items in
    let all : drain_items c.into_iter-slot-iterator.result ≡ slots =
    ap drain_items c.into_iter-slot-iterator.ensures.into_iter_gives ∙ c.drain-slot-items.ensures.rest
    ∙ take_all (length slots - 0) slots (omega arith) in
    record {
      can = search rules;
      finite = search rules;
      filled = rw all c.into_array_vec-filled.ensures.filled;
      converted = rw (all, c.into_array_vec-filled.ensures.items) (walk_begins (rw c.new-slots.ensures (refl, tt)));
    }

pub into_item-requires : goal.into_item-requires
into_item-requires g c = first_some _ c.loop-slot.invariant.filled _ _ c.in-Some.ensures.steps.0

pub push-requires : goal.push-requires
push-requires g c =
    let l = c.loop-slot.invariant in
    let done = l.converted.holds in
    let first = items_first _ l.filled _ _ c.in-Some.ensures.steps.0 _ c.into_item.ensures in (
      search rules,
      omega (
        arith,
        length_filled _ done.0,
        AllZip-long g.U.From.from_gives _ _ done.1,
        walk_within l.converted first,
        c.len-known.ensures.bounded,
      ),
    )

pub loop-slot-preserved : goal.loop-slot-preserved
loop-slot-preserved g c =
    let l = c.loop-slot.invariant in
    let done = l.converted.holds in
    let next = c.in-Some.ensures.steps.0 in
    let pushed = c.push.ensures.items ∙ push_filled _ done.0 c.from.result in
    record {
      can = c.in-Some.ensures.goes.keeps;
      finite = tt;
      filled = rest_filled _ l.filled _ _ next _ c.into_item.ensures;
      converted = walk_goes_on l.converted (items_first _ l.filled _ _ next _ c.into_item.ensures) (
        AreFilled-from _ _ pushed,
        rw (pushed, items_of-map) (all_zipped_more _ _ _ _ _ done.1 c.from.ensures),
      );
    }

pub returns : goal.returns
returns g c = (walk_ends c.loop-slot.invariant.converted (ap items_of c.in-None.ensures.steps.0)).1
