use Rattle.std.specs.Prelude.{◌≡◌, ◌≤◌, insert}
use Rattle.micromap_walk.proofs.slots.remove_slot.Given as goal

abbrev pub invariant-loop-at : goal.invariant-loop-at
invariant-loop-at g l = (insert l.rest l.at l.carried ≡ l.fn.slots.items) × (l.fn.index ≤ l.at)
