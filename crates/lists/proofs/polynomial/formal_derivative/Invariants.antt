use Rattle.lists.proofs.Filled.{Filled}
use Rattle.lists.proofs.Degrees.{derived}
use Rattle.lists.proofs.polynomial.formal_derivative.Given as goal

abbrev pub invariant-loop-i : goal.invariant-loop-i
invariant-loop-i g l = Filled (derived g.F.Field.field l.list) l.i l.initial.entry-items l.entry-items
