use Rattle.std.proofs.Common.{true}
use Rattle.std.proofs.lemmas.Result.{err_from_is_err_and}
use Rattle.sheet.specs.Taking.{take_line}
use Rattle.sheet.proofs.BytesTaken.{accepted, refused}
use Rattle.sheet.specs.Shown.{finish_numeric, not_mended}
use Rattle.sheet.proofs.Saying.{only, only_read, only_refused, only_unread, settle_refused}
use Rattle.sheet.proofs.hut_lines.finish.Goals as goal

pub returns-in_err-take_line : goal.returns-in_err-take_line
returns-in_err-take_line c =
    let line = c.args.line.now in
    let p = err_from_is_err_and c.from_residual.result c.from_residual.ensures.1 in
    rw (p.1, p.2) (only_refused finish_numeric line _ (refused (take_line true line) _ c.in_err-take_line.ensures.answer))

pub returns-in_err-listing : goal.returns-in_err-listing
returns-in_err-listing c =
    let line = c.args.line.now in
    let b = c.take_line.new.slip in
    let told = c.in_ok-take_line.ensures in
    let taken = accepted (take_line true line) b told.answer told.book in
    let settled = c.in_err-listing.ensures in
    let p = err_from_is_err_and c.from_residual-in_err-listing.result c.from_residual-in_err-listing.ensures.1 in
    rw (p.1, p.2) (only finish_numeric settled.decided line b taken _ (not_mended taken (settle_refused settled.refused)))

pub returns-in_err-sail : goal.returns-in_err-sail
returns-in_err-sail c =
    let line = c.args.line.now in
    let b = c.take_line.new.slip in
    let told = c.in_ok-take_line.ensures in
    let taken = accepted (take_line true line) b told.answer told.book in
    let follows = c.in_ok-listing.ensures.listed in
    let p = err_from_is_err_and c.from_residual-in_err-sail.result c.from_residual-in_err-sail.ensures.1 in
    rw (p.1, p.2) (only_unread finish_numeric c.mend.ensures.decided line b taken follows _ c.symbols.ensures.row _ c.in_err-sail.ensures)

pub returns : goal.returns
returns c =
    let line = c.args.line.now in
    let b = c.take_line.new.slip in
    let told = c.in_ok-take_line.ensures in
    let taken = accepted (take_line true line) b told.answer told.book in
    let follows = c.in_ok-listing.ensures.listed in
    rw c.nonzero.ensures
    (only_read finish_numeric c.mend.ensures.decided line b taken follows _ c.symbols.ensures.row _ _ c.in_ok-sail.ensures)
