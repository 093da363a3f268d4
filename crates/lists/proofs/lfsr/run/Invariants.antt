use Rattle.lists.proofs.Steps.{Kept}
use Rattle.lists.proofs.lfsr.run.Given as goal

abbrev pub invariant-loop-n : goal.invariant-loop-n
invariant-loop-n g l = Kept g.F.Field.field l.s l.initial.conn l.conn l.old l.n l.len l.old_len l.x l.old_inverse
