use Rattle.std.proofs.Common.{◌≡◌}
use Rattle.checksum.proofs.Feeds.{feed, fed}
use Rattle.checksum.proofs.engine.Engine.input_fe.Given as goal

abbrev pub invariant-loop-power : goal.invariant-loop-power
invariant-loop-power g l =
    let F = g.C.SymbolField.Field.field in
    let lower = g.C.Checksum.code.lower in
    fed F l.times l.below l.power l.residue lower ≡ feed F l.times l.initial.below l.initial.residue lower
