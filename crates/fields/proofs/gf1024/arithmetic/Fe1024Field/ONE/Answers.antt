use Rattle.std.proofs.Common.{refl, ap₂}
use Rattle.fields.specs.Gf32.{gf32, fe_path}
use Rattle.fields.specs.Gf1024.{gf1024, fe1024}
use Rattle.fields.proofs.gf1024.arithmetic.Fe1024Field.ONE.Goals as goal

pub returns : goal.returns
unfolding gf1024 gf32
returns c = ap₂ fe1024 (fe_path _ _ refl) (fe_path _ _ refl)
