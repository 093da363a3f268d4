use Rattle.std.proofs.Common.{◌≡◌, take}
use Rattle.algebra.specs.Code.{residue}
use Rattle.slip.specs.Sealing.{elements_of}
use Rattle.slip.proofs.slip.Slip.engine.Given as goal

abbrev pub invariant-loop-symbol : goal.invariant-loop-symbol
invariant-loop-symbol g l =
    let F = g.C.SymbolField.Field.field in
    let N = g.C.SymbolField.Field.numbers in
    let code = g.C.Checksum.code in
    l.engine ≡ residue F code (elements_of N (take l.symbol-index l.symbols))
