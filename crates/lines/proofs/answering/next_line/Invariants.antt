use Rattle.std.proofs.Common.{◌≡◌, ◌≢◌, ◌+◌, length, All}
use Rattle.std.specs.Io.KnownBytes.{Consumes}
use Rattle.lines.proofs.answering.next_line.Given as goal

abbrev pub invariant-loop-reader : goal.invariant-loop-reader
invariant-loop-reader g l =
    Consumes (g.R.Read.remaining l.initial.reader) (g.R.Read.remaining l.reader) l.line.items
    × (l.left + length l.line.items ≡ l.initial.left)
    × All (λ byte. byte ≢ 10) l.line.items

abbrev pub decreases-loop-reader : goal.decreases-loop-reader
decreases-loop-reader g l = l.left
