use Rattle.script.proofs.LentLists.{left_clear}
use Rattle.script.proofs.codes.SingleCodeSet.stays_clear.Goals as goal

pub returns : goal.returns
returns g c k w space clear = left_clear g.C.CorrectionField.Field.field _ 216 space.work clear
