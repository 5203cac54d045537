use Rattle.std.specs.Prelude.{◌≡◌, drop}
use Rattle.micromap_examples.specs.Heads.{names_of, without}
use Rattle.micromap_examples.proofs.request.remove_each.Given as goal

-- the headers now without the names left are those at the beginning without all names
abbrev pub invariant-loop-name : goal.invariant-loop-name
invariant-loop-name l = without (names_of (drop l.name-index l.names)) l.headers ≡ without (names_of l.names) l.initial.headers
