use Rattle.std.proofs.Common.{◌≡◌, ◌≢◌, ◌+◌, length, All}
use Rattle.std.specs.Io.KnownBytes.{Consumes}
use Rattle.lines.proofs.reading.read_line.Given as goal

abbrev pub invariant-loop-left : goal.invariant-loop-left
invariant-loop-left g l =
    Consumes (g.R.Read.remaining l.initial.reader) (g.R.Read.remaining l.reader) l.line.items
    × (l.left + length l.line.items ≡ l.initial.left)
    × All (λ byte. byte ≢ 10) l.line.items

abbrev pub decreases-loop-left : goal.decreases-loop-left
decreases-loop-left g l = l.left
