use Rattle.book.proofs.Numbers.{rows_sealed}
use Rattle.book.specs.Book.{row}
use Rattle.slip.proofs.Below.{row_below}
use Rattle.script.proofs.Answered.{sealed}
use Rattle.script.proofs.codes.SingleCodeSet.seal.Goals as goal

pub returns : goal.returns
returns g c =
    let N = g.C.SymbolField.Field.numbers in
    let s = g.C.SymbolField.Field.field in
    let code = g.C.Checksum.code in
    let slip = c.args.slip.now in
    let good = rows_sealed N s g.C.CorrectionField.Field.field g.C.CorrectionField.ExtensionField.lifted c.lift_laws.ensures code c.laws.ensures.lawful g.C.Checksum.rows g.met.C.Checksum.rows_are
    (row slip) (row_below N.size c.laws.ensures.alphabet slip c.seal.ensures.holdable) in
    sealed N s code slip g.C.Checksum.rows g.met.C.Checksum.rows_are _ _ good c.seal.ensures.answer c.seal.ensures.book
