use Rattle.std.proofs.Common.{refl}
use Rattle.fields.specs.Gf32.{gf32, fe_path}
use Rattle.fields.specs.Gf32768.{gf32768, fe32768_path}
use Rattle.fields.proofs.gf32768.arithmetic.Fe32768Field.ZERO.Goals as goal

pub returns : goal.returns
unfolding gf32768 gf32
returns c = fe32768_path _ _ (fe_path _ _ refl) (fe_path _ _ refl) (fe_path _ _ refl)
