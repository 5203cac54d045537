use Rattle.std.proofs.Common.{◌≡◌, ◌-◌, ◌∙◌, ap, append-nil, append_assoc, arith, length, length-append, map, rules, take_all, Some}
use Rattle.std.proofs.lemmas.List.{length-map}
use Rattle.arrayvec.specs.Iter.{drain_items}
use Rattle.micromap_walk.{specs.Filled.items_of, proofs.Laws.FilledLemmas.items_of-map}
use Rattle.micromap_walk.proofs.slots.Slots.into_capacity.Goals as goal

pub loop-slot-init : goal.loop-slot-init
loop-slot-init g c =
    let slots = c.into_array_vec-filled.result.items in
    let all : drain_items c.into_iter-slot-iterator.result ≡ slots =
    ap drain_items c.into_iter-slot-iterator.ensures.into_iter_gives ∙ c.drain-slot-items.ensures.rest
    ∙ take_all (length slots - 0) slots (omega arith) in
    record {
      can = search rules;
      finite = search rules;
      moved = rw (c.new-slots.ensures, all) (c.into_array_vec-filled.ensures.filled ∙ ap (map Some) c.into_array_vec-filled.ensures.items);
    }

pub push-requires : goal.push-requires
push-requires g c =
    let l = c.loop-slot in (
      search rules,
      omega (
        arith,
        length-append l.slots.items (drain_items l.slot-iterator),
        ap length l.invariant.moved,
        ap length c.in-Some.ensures.steps.0,
        length-map c.args.self Some,
        c.requires,
      ),
    )

pub loop-slot-preserved : goal.loop-slot-preserved
loop-slot-preserved g c = record {
  can = c.in-Some.ensures.goes.keeps;
  finite = tt;
  moved = rw (c.push.ensures.items, append_assoc) (rw c.in-Some.ensures.steps.0 at c.loop-slot.invariant.moved);
}

pub returns : goal.returns
returns g c = ap items_of (rw (c.in-None.ensures.steps.0, append-nil) at c.loop-slot.invariant.moved) ∙ items_of-map c.args.self
