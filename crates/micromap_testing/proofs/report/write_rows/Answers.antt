use Rattle.std.proofs.Common.{rules, get_or}
use Rattle.std.proofs.KnownBytes.{Appends-trans}
use Rattle.std.proofs.lemmas.List.{drop_more}
use Rattle.std.specs.Io.KnownBytes.{Appends}
use Rattle.micromap_testing.specs.Rows.{ok_line}
use Rattle.micromap_testing.proofs.report.write_rows.Goals as goal

-- a line of a row that is ok was written before the lines of the rows left
pub loop-number-preserved : goal.loop-number-preserved
loop-number-preserved g c = λ ok end rest.
    let l = c.loop-number in
    let numbers = c.args.numbers.now in
    let wrote : Appends (g.W.Write.contents l.out) (g.W.Write.contents c.writeln.new.self) (ok_line (get_or numbers l.number-index 0)) = search rules in
    l.invariant (search rules) end (rw (drop_more numbers l.number-index 0 c.loop-number-test.true) (Appends-trans _ _ end _ _ wrote rest))
