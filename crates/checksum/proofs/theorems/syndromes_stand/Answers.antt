use Rattle.algebra.proofs.Syndromes.{syndromes_of_changes}
use Rattle.checksum.proofs.theorems.syndromes_stand.Goals as goal

pub returns : goal.returns
returns g c =
    syndromes_of_changes g.C.SymbolField.Field.field g.C.CorrectionField.Field.field g.C.CorrectionField.ExtensionField.lifted c.lift_laws.ensures g.C.Checksum.code c.laws.ensures.lawful
