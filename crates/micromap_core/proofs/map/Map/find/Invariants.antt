use Rattle.std.proofs.Common.{◌-◌, length}
use Rattle.std.specs.Map.{keys_of}
use Rattle.micromap_core.proofs.Laws.ScanLemmas.{NotYet}
use Rattle.micromap_core.proofs.map.Map.find.Given as goal

abbrev pub invariant-loop-key : goal.invariant-loop-key
invariant-loop-key g l = NotYet (g.P.Probe.matches l.probe) (length (keys_of l.self) - length l.keys) l.keys (keys_of l.self)
