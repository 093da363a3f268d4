use Rattle.algebra.proofs.Distance.{distance}
use Rattle.checksum.proofs.theorems.distance_stands.Goals as goal

pub returns : goal.returns
returns g c =
    distance g.C.SymbolField.Field.field g.C.CorrectionField.Field.field g.C.CorrectionField.ExtensionField.lifted c.lift_laws.ensures g.C.Checksum.code c.laws.ensures.lawful
