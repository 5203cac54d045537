use Rattle.std.specs.Prelude.{◌≡◌, ◌++◌}
use Rattle.micromap_walk.proofs.Laws.Walked.{Walked}
use Rattle.micromap_core.specs.Stream.{Faultless}
use Rattle.micromap_core.proofs.map.Map.write_entries.Given as goal

abbrev pub invariant-loop-key : goal.invariant-loop-key
invariant-loop-key g l = record {
  faultless : Faultless g.S.EntrySink.faults g.S.EntrySink.last_fault l.fn.sink l.sink;
  written : Walked l.self l.key-iterator (λ before. g.S.EntrySink.taken l.sink ≡ g.S.EntrySink.taken l.fn.sink ++ before);
}
