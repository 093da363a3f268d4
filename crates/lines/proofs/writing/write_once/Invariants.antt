use Rattle.std.specs.Io.KnownBytes.{Keeps}
use Rattle.lines.proofs.writing.write_once.Given as goal

abbrev pub invariant-loop : goal.invariant-loop
invariant-loop g l = Keeps (g.W.Write.contents l.initial.writer) (g.W.Write.contents l.writer)
