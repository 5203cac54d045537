use Rattle.std.specs.List.{AllZip}
use Rattle.arrayvec.specs.Iter.{drain_items}
use Rattle.micromap_walk.{specs.Filled.items_of, specs.Filled.AreFilled, proofs.Laws.Walked.Walked}
use Rattle.micromap_walk.proofs.slots.Slots.converted.Given as goal

abbrev pub invariant-loop-slot : goal.invariant-loop-slot
invariant-loop-slot g l = record {
  can : (goal.iterator-loop-slot g).can_next l.slot-iterator;
  finite : (goal.iterator-loop-slot g).is_finite l.slot-iterator;
  filled : AreFilled (drain_items l.slot-iterator);
  converted : Walked l.fn.self (items_of (drain_items l.slot-iterator))
      (λ done. AreFilled l.slots.items × AllZip g.U.From.from_gives done (items_of l.slots.items));
}
