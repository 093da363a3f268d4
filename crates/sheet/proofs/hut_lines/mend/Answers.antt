use Rattle.sheet.proofs.Saying.{settle_not_done, settle_not_slip}
use Rattle.sheet.proofs.hut_lines.mend.Goals as goal

pub unreachable-requires : goal.unreachable-requires
unreachable-requires c = settle_not_done (rw (c.in-Ok-Done.field-0-is) at c.in-Ok-Done.ensures.follows)

pub unreachable-requires-in-Err-Slip : goal.unreachable-requires-in-Err-Slip
unreachable-requires-in-Err-Slip c = settle_not_slip (rw (c.in-Err-Slip.field-0-is) at c.in-Err-Slip.ensures.follows)
