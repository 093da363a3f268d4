use Rattle.std.proofs.Common.{refl, ap₂}
use Rattle.fields.specs.Gf32.{gf32, fe_path}
use Rattle.fields.specs.Gf1024.{fe1024}
use Rattle.fields.proofs.gf1024.arithmetic.Fe1024ExtensionField.lift.Goals as goal

pub returns : goal.returns
unfolding gf32
returns c = ap₂ fe1024 refl (fe_path _ _ refl)
