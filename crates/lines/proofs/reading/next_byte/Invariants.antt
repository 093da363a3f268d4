use Rattle.std.proofs.Common.{◌≡◌, length}
use Rattle.std.specs.Io.KnownBytes.{Keeps}
use Rattle.lines.proofs.reading.next_byte.Given as goal

abbrev pub invariant-loop : goal.invariant-loop
invariant-loop g l = (length l.one ≡ 1) × Keeps (g.R.Read.remaining l.initial.reader) (g.R.Read.remaining l.reader)
