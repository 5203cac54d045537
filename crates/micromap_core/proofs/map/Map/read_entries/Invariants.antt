use Rattle.std.specs.Prelude.{length}
use Rattle.micromap_core.proofs.StreamLemmas.{Reading}
use Rattle.micromap_core.proofs.map.Map.read_entries.Given as goal

abbrev pub invariant-loop-key : goal.invariant-loop-key
invariant-loop-key g l = Reading g.K.PartialEq.eq g.row.N g.S.EntrySource.left
    g.S.EntrySource.faults g.S.EntrySource.last_fault l.fn.source l.source l.map

abbrev pub decreases-loop-key : goal.decreases-loop-key
decreases-loop-key g l = length (g.S.EntrySource.left l.source)
