use Rattle.std.proofs.Common.{◌≡◌, ◌++◌, map, take, drop}
use Rattle.checksum.proofs.engine.Engine.negate.Given as goal

abbrev pub invariant-loop-coefficient : goal.invariant-loop-coefficient
invariant-loop-coefficient g l =
    l.residue ≡ take l.coefficient-index (map g.C.SymbolField.Field.field.neg l.initial.residue) ++ drop l.coefficient-index l.initial.residue
