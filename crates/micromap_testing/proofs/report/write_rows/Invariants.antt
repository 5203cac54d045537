use Rattle.std.proofs.Common.{◌≡◌, List, ℕ, Option, true, drop}
use Rattle.std.specs.Io.KnownBytes.{Appends}
use Rattle.std.specs.List.{flat_map}
use Rattle.micromap_testing.specs.Rows.{ok_line}
use Rattle.micromap_testing.proofs.report.write_rows.Given as goal

-- the lines of the rows left complete those of all rows, where all so far are ok
abbrev pub invariant-loop-number : goal.invariant-loop-number
invariant-loop-number g l =
    let contents = g.W.Write.contents in
    l.all_ok ≡ true → (end : Option (List ℕ)) → Appends (contents l.out) end (flat_map ok_line (drop l.number-index l.numbers)) → Appends (contents l.fn.out) end (flat_map ok_line l.numbers)
