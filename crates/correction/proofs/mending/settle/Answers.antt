use Rattle.std.proofs.Common.{length, refl}
use Rattle.std.proofs.lemmas.Result.{err_from_is_err_and}
use Rattle.book.specs.Calls.{settles}
use Rattle.correction.proofs.Finding.{patterned, room_for, settled_by}
use Rattle.correction.proofs.mending.settle.Goals as goal

pub returns-in_err-found-clause-follows : goal.returns-in_err-found-clause-follows
returns-in_err-found-clause-follows g c =
    let p = err_from_is_err_and c.from_residual.result c.from_residual.ensures.1 in
    rw (p.1, p.2) (settles c.in_err-found.ensures.found)

pub list-requires : goal.list-requires
list-requires g c =
    room_for g.C.Checksum.rows (length c.args.records.now) (length c.args.work.now) c.args.slip.now
    c.in_ok-found.found.pattern c.records-listed.result.now c.in_ok-found.found.nonzero c.in_ok-found.found.mended c.in_ok-found.ensures.found c.records-listed.ensures.records

pub returns-clause-follows : goal.returns-clause-follows
returns-clause-follows g c =
    settled_by g.C.Checksum.rows (length c.args.records.now) (length c.args.work.now) c.args.slip.now
    c.in_ok-found.found.pattern c.records-listed.result.now c.list.new.records c.args.records.now (length c.records-listed.result.now) c.in_ok-found.found.nonzero c.in_ok-found.found.mended
    c.in_ok-found.ensures.found c.records-listed.ensures.records refl c.list.ensures

pub returns-clause-pattern : goal.returns-clause-pattern
returns-clause-pattern g c =
    patterned g.C.Checksum.rows (length c.args.records.now) (length c.args.work.now) c.args.slip.now
    c.in_ok-found.found.pattern c.records-listed.result.now c.list.new.records c.args.records.now (length c.records-listed.result.now) c.in_ok-found.found.nonzero c.in_ok-found.found.mended
    c.in_ok-found.ensures.found c.records-listed.ensures.records refl c.list.ensures
