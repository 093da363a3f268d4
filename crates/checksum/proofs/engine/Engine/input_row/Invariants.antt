use Rattle.std.proofs.Common.{◌≡◌, drop}
use Rattle.algebra.specs.Code.{residue_from}
use Rattle.checksum.proofs.engine.Engine.input_row.Given as goal

abbrev pub invariant-loop-symbol : goal.invariant-loop-symbol
invariant-loop-symbol g l =
    let F = g.C.SymbolField.Field.field in
    let lower = g.C.Checksum.code.lower in
    residue_from F lower l.self (drop l.symbol-index l.row) ≡ residue_from F lower l.initial.self l.row
