use Rattle.std.proofs.Common.{length, sym, refl, rules}
use Rattle.std.proofs.lemmas.Result.{err_from_is_err_and}
use Rattle.book.specs.Calls.{barred}
use Rattle.book.proofs.Numbers.{rows_lawful}
use Rattle.slip.proofs.Below.{row_below}
use Rattle.correction.proofs.Finding.{checked}
use Rattle.correction.proofs.mending.search.Goals as goal

pub returns-in_err-can_mend-clause-found : goal.returns-in_err-can_mend-clause-found
returns-in_err-can_mend-clause-found g c =
    let p = err_from_is_err_and c.from_residual.result c.from_residual.ensures.1 in
    rw (p.1, p.2) (barred (sym c.in_err-can_mend.ensures.fault))

pub returns-clause-found : goal.returns-clause-found
returns-clause-found g c =
    let N = g.C.SymbolField.Field.numbers in
    let s = g.C.SymbolField.Field.field in
    let C = g.C.Checksum.rows in
    let law = rows_lawful N s g.C.CorrectionField.Field.field g.C.CorrectionField.ExtensionField.lifted c.lift_laws.ensures g.C.Checksum.code c.laws.ensures.lawful C g.met.C.Checksum.rows_are c.laws.ensures.alphabet in
    rw c.ok_or.ensures.value (checked C c.args.records (length c.args.work.now) c.args.slip.now law (row_below 32 refl c.args.slip.now c.can_mend.ensures.holdable) (sym c.in_ok-can_mend.ensures.fault)
    c.bch_errors.result c.filter.result _ (λ p t k. search rules) c.bch_errors.ensures.proposes c.filter.ensures)
