use Rattle.std.proofs.Common.{◌≡◌, ◌++◌, take, drop}
use Rattle.algebra.specs.Poly.{poly_sub}
use Rattle.checksum.proofs.engine.Engine.subtract_from_target.Given as goal

abbrev pub invariant-loop-power : goal.invariant-loop-power
invariant-loop-power g l =
    let F = g.C.SymbolField.Field.field in
    let target = g.C.Checksum.code.target in
    l.residue ≡ take l.power (poly_sub F target l.initial.residue) ++ drop l.power l.initial.residue
