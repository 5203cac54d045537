use Rattle.std.specs.Prelude.{◌≡◌, ◌++◌, map, Some}
use Rattle.arrayvec.specs.Iter.{drain_items}
use Rattle.micromap_walk.proofs.slots.Slots.into_capacity.Given as goal

abbrev pub invariant-loop-slot : goal.invariant-loop-slot
invariant-loop-slot g l = record {
  can : (goal.iterator-loop-slot g).can_next l.slot-iterator;
  finite : (goal.iterator-loop-slot g).is_finite l.slot-iterator;
  moved : l.slots.items ++ drain_items l.slot-iterator ≡ map Some l.fn.self;
}
