-- What the program writes for a row.
use Rattle.std.specs.Prelude.{ℕ, List, ◌++◌, codes}
use Rattle.std.specs.Fmt.{decimal}

-- the line of a row whose values came out
abbrev pub ok_line : ℕ → List ℕ
ok_line number = codes "row " ++ decimal number ++ codes ": ok\n"
