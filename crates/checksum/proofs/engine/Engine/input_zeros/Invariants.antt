use Rattle.std.proofs.Common.{◌≡◌, ◌-◌, replicate}
use Rattle.algebra.specs.Code.{residue_from}
use Rattle.checksum.proofs.engine.Engine.input_zeros.Given as goal

-- the ZEROs that are left take the residue to what all of them take it to
abbrev pub invariant-loop : goal.invariant-loop
invariant-loop g l =
    let F = g.C.SymbolField.Field.field in
    let lower = g.C.Checksum.code.lower in
    residue_from F lower l.self (replicate (l.end - l.counter) F.𝟘) ≡ residue_from F lower l.initial.self (replicate l.end F.𝟘)
