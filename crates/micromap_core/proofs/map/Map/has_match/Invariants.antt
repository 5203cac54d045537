use Rattle.std.specs.Prelude.{◌≡◌, ◌||◌}
use Rattle.std.specs.{List.list_any, Map.keys_of}
use Rattle.micromap_core.proofs.map.Map.has_match.Given as goal

-- a key matches if one did so far, or one left does
abbrev pub invariant-loop-key : goal.invariant-loop-key
invariant-loop-key g l = list_any (g.P.Probe.matches l.probe) (keys_of l.self)
    ≡ (l.found || list_any (g.P.Probe.matches l.probe) l.key-iterator)
