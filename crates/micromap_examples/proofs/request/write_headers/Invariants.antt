use Rattle.std.specs.Prelude.{List, ℕ, Option}
use Rattle.std.specs.Io.KnownBytes.{Appends}
use Rattle.std.specs.List.{flat_map}
use Rattle.micromap_examples.specs.Heads.{header_line}
use Rattle.micromap_examples.proofs.request.write_headers.Given as goal

-- the lines of the headers left complete those of all headers
abbrev pub invariant-loop-name : goal.invariant-loop-name
invariant-loop-name g l =
    let contents = g.W.Write.contents in
    (end : Option (List ℕ)) → Appends (contents l.output) end (flat_map header_line l.name-iterator) → Appends (contents l.fn.output) end (flat_map header_line l.headers)
