use Rattle.std.specs.Map.{keys_of}
use Rattle.micromap_core.proofs.Laws.ScanLemmas.{NotYet}
use Rattle.micromap_core.proofs.map.Map.index_of.Given as goal

abbrev pub invariant-loop-key : goal.invariant-loop-key
invariant-loop-key g l = NotYet (g.P.Probe.matches l.probe) l.index l.key-iterator (keys_of l.self)
