-- The output line: five numbers in columns, and a newline.
use Rattle.std.specs.Prelude.{ℕ, List, [], ◌∷◌, ◌++◌}
use Rattle.sheet.specs.Columns.{column}
use Rattle.sheet.specs.declared.output_line.Report.{Report}

abbrev pub output_line : Report → List ℕ
output_line told =
    column 6 told.line ++ (column 4 told.refusal ++ (column 4 told.changes
    ++ (column 8 told.sail ++ (column 8 told.seconds ++ 10 ∷ []))))
