use Rattle.std.proofs.Common.{◌≡◌, ◌+◌, drop}
use Rattle.sheet.specs.Taking.{book_after_bytes}
use Rattle.sheet.proofs.taking.take_group.Given as goal

abbrev pub invariant-loop-i : goal.invariant-loop-i
invariant-loop-i l =
    book_after_bytes l.blanks l.case (l.start + l.i-counter) (drop l.i-counter l.bytes) l.slip
    ≡ book_after_bytes l.blanks l.case l.start l.bytes l.initial.slip
