use Rattle.std.proofs.Common.{◌≡◌, ◌∙◌, ℕ, not, eqb, count_by, length, sym, ap}
use Rattle.std.proofs.lemmas.Result.{err_from_is_err_and}
use Rattle.algebra.specs.NumericCode.{NumericCode}
use Rattle.book.specs.Mending.{nonzero_count}
use Rattle.correction.proofs.Finding.{is_found, zero_number}
use Rattle.correction.proofs.mending.find.Goals as goal

pub returns-in_err-pattern-clause-found : goal.returns-in_err-pattern-clause-found
returns-in_err-pattern-clause-found g c =
    let p = err_from_is_err_and c.from_residual.result c.from_residual.ensures.1 in
    rw (p.1, p.2) c.in_err-pattern.ensures.found

pub returns-clause-found : goal.returns-clause-found
returns-clause-found g c =
    let N = g.C.SymbolField.Field.numbers in
    let s = g.C.SymbolField.Field.field in
    let C = g.C.Checksum.rows in
    let cs = c.in_ok-pattern.pattern in
    let zero = ap (λ (rows : NumericCode). rows.zero) g.met.C.Checksum.rows_are ∙ zero_number N s c.ZERO.result c.number.result (c.ZERO.ensures ∙ g.met.C.SymbolField.Field.zero_is) c.number.ensures.number in
    let changed : c.count_changes-nonzero.result ≡ nonzero_count C cs =
    rw (c.count_changes-nonzero.ensures, c.records.ensures.records) (ap (λ (nothing : ℕ). count_by (λ r. not (eqb r.change nothing)) cs) (sym zero)) in
    is_found C c.args.records (length c.args.work.now) c.args.slip.now cs c.count_changes-nonzero.result c.mended-mended.result c.records-2.result.now
    c.in_ok-pattern.ensures.found changed c.records-2.ensures.records c.mended-mended.ensures.mended
