use Rattle.std.proofs.Common.{◌≡◌, ◌++◌, ◌-◌, length, take, reverse}
use Rattle.sheet.specs.Columns.{column}
use Rattle.sheet.proofs.ColumnSteps.{ahead}
use Rattle.sheet.proofs.columns.write_column.Given as goal

abbrev pub invariant-loop-written : goal.invariant-loop-written
invariant-loop-written l =
    take l.written l.out ++ ahead l.written (length l.out - l.written) l.rest ≡ reverse (column (length l.initial.out) l.number)
