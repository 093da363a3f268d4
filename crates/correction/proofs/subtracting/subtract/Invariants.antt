use Rattle.std.proofs.Common.{◌≡◌, ◌<◌, All, drop}
use Rattle.book.specs.Mending.{row_less}
use Rattle.correction.proofs.subtracting.subtract.Given as goal

-- what is left to subtract leads to the same row
abbrev pub invariant-loop-record : goal.invariant-loop-record
invariant-loop-record g l =
    let C = g.C.Checksum.rows in
    record {
      same : row_less C (drop l.record-index l.records) l.symbols ≡ row_less C l.records l.initial.symbols;
      below : All (λ v. v < C.size) l.symbols;
    }
