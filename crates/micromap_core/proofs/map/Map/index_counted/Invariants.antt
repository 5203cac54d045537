use Rattle.std.specs.Prelude.{◌≡◌, ◌+◌}
use Rattle.std.specs.Map.{keys_of}
use Rattle.micromap_core.proofs.Laws.ScanLemmas.{NotYet}
use Rattle.micromap_core.proofs.map.Map.index_counted.Given as goal

abbrev pub invariant-loop-stored : goal.invariant-loop-stored
invariant-loop-stored g l = record {
  scan : NotYet (g.K.PartialEq.eq l.key) l.index l.stored-iterator (keys_of l.self);
  count : l.steps ≡ l.initial.steps + l.index;
}
