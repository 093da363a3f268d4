use Rattle.book.proofs.Numbers.{rows_lawful}
use Rattle.script.proofs.codes.SingleCodeSet.laws.Goals as goal

pub returns : goal.returns
returns g c k =
    rows_lawful g.C.SymbolField.Field.numbers g.C.SymbolField.Field.field g.C.CorrectionField.Field.field g.C.CorrectionField.ExtensionField.lifted
    c.lift_laws.ensures g.C.Checksum.code c.laws.ensures.lawful g.C.Checksum.rows g.met.C.Checksum.rows_are c.laws.ensures.alphabet
