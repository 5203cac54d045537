use Rattle.std.proofs.Common.{◌<◌, length, ℕ, arith, mul-le-mul_right, le_of_lt, length-set}
use Rattle.micromap_walk.proofs.Laws.FilledLemmas.{refill_set, taken_some, taken_items, taken_filled}
use Rattle.micromap_walk.proofs.owning.take_slot.Goals as goal

pub offset_bounds-as_mut_slice-index : goal.offset_bounds-as_mut_slice-index
offset_bounds-as_mut_slice-index g c =
    let within : c.args.index < length c.as_mut_slice.result.now = rw c.as_mut_slice.ensures.value c.requires.within in
    let scaled = λ (k : ℕ). mul-le-mul_right k (le_of_lt within) in
    record { fits = omega (arith, scaled, c.as_mut_slice.type_inv) }

pub into_item-requires : goal.into_item-requires
into_item-requires g c = taken_some _ _ c.requires.filled c.requires.within c.take.result (cc)

pub returns-clause-items : goal.returns-clause-items
returns-clause-items g c = rw (c.as_mut_slice.ensures.value, c.take.ensures.after, refill_set)
    (taken_items _ _ c.requires.filled c.requires.within c.take.result (cc) c.into_item.result c.into_item.ensures)

pub returns-clause-filled : goal.returns-clause-filled
returns-clause-filled g c = rw (c.as_mut_slice.ensures.value, c.take.ensures.after, refill_set)
    (taken_filled _ _ c.requires.filled c.requires.within c.take.result (cc) c.into_item.result c.into_item.ensures)

pub returns-clause-len : goal.returns-clause-len
returns-clause-len g c = rw (c.as_mut_slice.ensures.value, refill_set) (length-set _ _ _)
