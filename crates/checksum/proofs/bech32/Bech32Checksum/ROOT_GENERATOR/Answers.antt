use Rattle.std.proofs.Common.{refl, ap₂}
use Rattle.fields.specs.Gf32.{fe_path}
use Rattle.fields.specs.Gf1024.{fe1024}
use Rattle.checksum.specs.Bech32.{bech32}
use Rattle.checksum.proofs.bech32.Bech32Checksum.ROOT_GENERATOR.Goals as goal

pub returns : goal.returns
unfolding bech32
returns c = ap₂ fe1024 (fe_path _ _ refl) (fe_path _ _ refl)
