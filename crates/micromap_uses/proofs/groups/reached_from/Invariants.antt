use Rattle.std.specs.Prelude.{◌≡◌, ℕ, ◌-◌, ◌≤◌, List, length, nat_eq, true}
use Rattle.std.specs.List.{list_all}
use Rattle.std.specs.Set.{is_member}
use Rattle.micromap_uses.specs.Graphs.{is_closed}
use Rattle.micromap_uses.proofs.groups.reached_from.Given as goal

-- the set so far has the start, and is within each closed list that has it
abbrev pub invariant-loop-node : goal.invariant-loop-node
invariant-loop-node l = record {
  start : is_member nat_eq l.met l.fn.start ≡ true;
  least : (s : List ℕ) → is_member nat_eq s l.fn.start ≡ true → is_closed l.graph s ≡ true → list_all (is_member nat_eq s) l.met ≡ true;
  bounded : length l.met ≤ 64;
}

abbrev pub decreases-loop-node : goal.decreases-loop-node
decreases-loop-node l = 64 - length l.met
