use Rattle.std.proofs.Common.{◌≡◌, length}
use Rattle.sheet.specs.Cursors.{remaining_pieces}
use Rattle.sheet.specs.Pieces.{pieces}
use Rattle.sheet.specs.Taking.{book_after_parts}
use Rattle.sheet.proofs.ByPieces.{AllEndBy}
use Rattle.sheet.proofs.taking.take_pieces.Given as goal

abbrev pub invariant-loop-piece : goal.invariant-loop-piece
invariant-loop-piece l =
    (goal.iterator-loop-piece).can_next l.piece-iterator
    × (goal.iterator-loop-piece).is_finite l.piece-iterator
    × (book_after_parts l.blanks l.case (remaining_pieces l.piece-iterator) l.slip ≡ book_after_parts l.blanks l.case (pieces l.line) l.initial.slip)
    × AllEndBy (length l.line) (remaining_pieces l.piece-iterator)
