use Rattle.std.proofs.Common.{ap₂}
use Rattle.fields.specs.Gf32.{gf32}
use Rattle.fields.specs.Gf1024.{gf1024, fe1024}
use Rattle.fields.proofs.gf1024.arithmetic.Fe1024Field.mul.Goals as goal

pub returns : goal.returns
unfolding gf1024
returns c =
    let one = gf32.one_mul (gf32.mul c.args.self.c1 c.args.other.c1) in
    ap₂ fe1024 (cc) (cc)
