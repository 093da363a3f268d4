use Rattle.std.proofs.Common.{false}
use Rattle.std.proofs.lemmas.Bool.Decides.{Decides-at, not_from_Decides}
use Rattle.correction.proofs.Checking.{decided_no}
use Rattle.correction.proofs.Fitted.{sensible_changes, not_formed, fits_decided}
use Rattle.correction.proofs.checker.fits.Goals as goal

pub returns-else-is_formed : goal.returns-else-is_formed
returns-else-is_formed g c =
    Decides-at c.is_formed.result false c.if-is_formed.false (decided_no (not_formed g.C.Checksum.rows c.args.slip.now c.args.records.now
    (not_from_Decides c.is_formed.result c.is_formed.ensures c.if-is_formed.false)))

pub mended-requires : goal.mended-requires
mended-requires g c =
    let C = g.C.Checksum.rows in
    sensible_changes c.args.slip.now C.size C.zero c.args.records.now (c.is_formed.ensures.0 c.if-is_formed.true).sensible

pub returns-then-is_formed : goal.returns-then-is_formed
returns-then-is_formed g c =
    fits_decided g.C.SymbolField.Field.numbers g.C.SymbolField.Field.field g.C.Checksum.code g.C.Checksum.rows g.met.C.Checksum.rows_are c.laws.ensures.alphabet c.args.slip.now c.args.records.now
    (c.is_formed.ensures.0 c.if-is_formed.true) c.mended.result c.mended.ensures.mended c.mended.ensures.holdable
    c.engine.result c.engine.ensures c.meets_target.result c.meets_target.ensures
