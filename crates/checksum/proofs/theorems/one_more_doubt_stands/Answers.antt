use Rattle.algebra.proofs.Distance.{one_more_doubt}
use Rattle.checksum.proofs.theorems.one_more_doubt_stands.Goals as goal

pub returns : goal.returns
returns g c =
    one_more_doubt g.C.SymbolField.Field.field g.C.CorrectionField.Field.field g.C.CorrectionField.ExtensionField.lifted c.lift_laws.ensures g.C.Checksum.code c.laws.ensures.lawful
