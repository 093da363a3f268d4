use Rattle.correction.proofs.Linear.{Turned}
use Rattle.correction.proofs.locating.times_linear.Given as goal

abbrev pub invariant-loop-entry : goal.invariant-loop-entry
invariant-loop-entry g l = Turned g.F.Field.field l.x l.initial.list l.entry-index l.below l.list
