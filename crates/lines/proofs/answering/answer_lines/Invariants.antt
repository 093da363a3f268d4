use Rattle.lines.proofs.Coming.{Going}
use Rattle.lines.proofs.answering.answer_lines.Given as goal

abbrev pub invariant-loop-answered : goal.invariant-loop-answered
invariant-loop-answered g l =
    Going g.C.Clerk.answers 65536 (g.R.Read.remaining l.initial.reader) (g.R.Read.remaining l.reader)
    (g.W.Write.contents l.initial.writer) (g.W.Write.contents l.writer) l.left l.answered
