use Rattle.std.specs.Prelude.{◌≡◌, ◌+◌, ◌*◌, ◌≤◌, length}
use Rattle.std.specs.List.{list_all}
use Rattle.micromap_core.specs.{Same.has_value, Steps.total_steps}
use Rattle.micromap_core.proofs.Laws.StepsLemmas.{most_steps}
use Rattle.micromap_core.proofs.map.Map.is_within_counted.Given as goal

-- the pairs that are left answer as all of them do, in as many steps as are still to be counted
abbrev pub invariant-loop-key : goal.invariant-loop-key
invariant-loop-key g l = record {
  answer : list_all (has_value g.K.PartialEq.eq g.V.PartialEq.eq l.other) l.key-iterator
      ≡ list_all (has_value g.K.PartialEq.eq g.V.PartialEq.eq l.other) l.self;
  count : l.steps + total_steps g.K.PartialEq.eq g.V.PartialEq.eq l.other l.key-iterator
      ≡ l.initial.steps + total_steps g.K.PartialEq.eq g.V.PartialEq.eq l.other l.self;
  bounded : l.steps + most_steps l.key-iterator (length l.other) ≤ l.initial.steps + length l.self * length l.other;
}
