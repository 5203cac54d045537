use Rattle.std.specs.Prelude.{◌≡◌, ℕ, List, true}
use Rattle.micromap_uses.specs.Graphs.{is_closed}
use Rattle.micromap_uses.proofs.groups.next_node.Given as goal

-- the pairs so far are closed, and those left are closed in each list in which all are
abbrev pub invariant-loop-node : goal.invariant-loop-node
invariant-loop-node l = (is_closed l.node-iterator l.met ≡ is_closed l.graph l.met)
    × ((s : List ℕ) → is_closed l.graph s ≡ true → is_closed l.node-iterator s ≡ true)
