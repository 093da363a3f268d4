use Rattle.std.proofs.Common.{refl}
use native.Mathlib.Decide.{dec_le, dec_lt, ℕ_discrete}
use Rattle.algebra.proofs.Carried.{carried}
use Rattle.algebra.proofs.Quadratic.{quadratic}
use Rattle.checksum.specs.Finish.{finish}
use Rattle.fields.specs.Binary.{binary_product}
use Rattle.fields.specs.Gf32.{gf32, fe_dec_eq, gf32_numbers}
use Rattle.fields.specs.Gf1024.{gf1024}
use Rattle.examples.proofs.examples_stand.Goals as goal

pub returns : goal.returns
unfolding finish gf32 fe_dec_eq gf32_numbers gf1024 carried quadratic binary_product dec_lt dec_le ℕ_discrete
returns c = refl
