use Rattle.std.specs.Prelude.{◌≡◌, drop, map}
use Rattle.httparse.specs.Borrowed.{header_parts}
use Rattle.micromap_examples.specs.Headers.{field_of, headers_of, with_fields}
use Rattle.micromap_examples.proofs.headers.collect.Given as goal

-- the fields left make of the headers so far what all fields make
abbrev pub invariant-loop-field : goal.invariant-loop-field
invariant-loop-field g l = headers_of g.row.N (map header_parts l.fields) ≡ with_fields g.row.N l.headers (map field_of (map header_parts (drop l.field-index l.fields)))
