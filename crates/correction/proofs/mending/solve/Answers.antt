use Rattle.std.proofs.Common.{◌∙◌, ap, arith, length, sym}
use Rattle.std.proofs.lemmas.Result.{err_from_is_err_and}
use Rattle.book.specs.Calls.{solves}
use Rattle.correction.proofs.Finding.{patterned, room_for, solved}
use Rattle.correction.proofs.mending.solve.Goals as goal

pub returns-in_err-found-clause-follows : goal.returns-in_err-found-clause-follows
returns-in_err-found-clause-follows g c =
    let p = err_from_is_err_and c.from_residual.result c.from_residual.ensures.1 in
    rw (p.1, p.2) (solves c.in_err-found.ensures.found)

pub list-requires : goal.list-requires
list-requires g c =
    let room = room_for g.C.Checksum.rows (length c.args.records.now) (length c.args.work.now) c.args.slip.now
    c.in_ok-found.found.pattern c.records.result.now c.in_ok-found.found.nonzero c.in_ok-found.found.mended c.in_ok-found.ensures.found c.records.ensures.records in
    omega arith

pub returns-clause-follows : goal.returns-clause-follows
returns-clause-follows g c =
    solved g.C.Checksum.rows (length c.args.records.now) (length c.args.work.now) c.args.slip.now
    c.in_ok-found.found.pattern c.records.result.now c.list.new.records c.args.records.now (length c.records-2.result.now) c.in_ok-found.found.nonzero c.in_ok-found.found.mended
    c.in_ok-found.ensures.found c.records.ensures.records (ap length (c.records-2.ensures.records ∙ sym c.records.ensures.records)) c.list.ensures

pub returns-clause-pattern : goal.returns-clause-pattern
returns-clause-pattern g c =
    patterned g.C.Checksum.rows (length c.args.records.now) (length c.args.work.now) c.args.slip.now
    c.in_ok-found.found.pattern c.records.result.now c.list.new.records c.args.records.now (length c.records-2.result.now) c.in_ok-found.found.nonzero c.in_ok-found.found.mended
    c.in_ok-found.ensures.found c.records.ensures.records (ap length (c.records-2.ensures.records ∙ sym c.records.ensures.records)) c.list.ensures
