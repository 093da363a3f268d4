use Rattle.std.proofs.Common.{length, take}
use Rattle.script.specs.Script.{LeadsEachSlip, LeavesReplies}
use Rattle.script.proofs.run.run.Given as goal

abbrev pub invariant-loop-i : goal.invariant-loop-i
invariant-loop-i g l =
    LeadsEachSlip g.K.CodeSet.codes l.initial.slips (take l.i l.steps) l.replies l.slips
    × LeavesReplies (length l.initial.slips) (take l.i l.steps) l.initial.replies l.replies
    × (g.K.CodeSet.clear l.initial.workspace → g.K.CodeSet.clear l.workspace)
