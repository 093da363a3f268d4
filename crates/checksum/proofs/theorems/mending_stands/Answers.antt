use Rattle.algebra.proofs.Mended.{mends}
use Rattle.checksum.proofs.theorems.mending_stands.Goals as goal

pub returns : goal.returns
returns g c =
    mends g.C.SymbolField.Field.field g.C.CorrectionField.Field.field g.C.CorrectionField.ExtensionField.lifted c.lift_laws.ensures g.C.Checksum.code c.laws.ensures.lawful
