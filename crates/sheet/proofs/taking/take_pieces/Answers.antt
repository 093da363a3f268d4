use Rattle.std.proofs.Common.{◌≡◌, ◌∙◌, [], length, ap, subst, sym, arith}
use Rattle.sheet.specs.Cursors.{remaining_pieces}
use Rattle.sheet.specs.Pieces.{pieces}
use Rattle.sheet.specs.Taking.{book_after_parts}
use Rattle.sheet.proofs.ByPieces.{AllEndBy, all_end}
use Rattle.sheet.proofs.taking.take_pieces.Goals as goal

pub loop-piece-init : goal.loop-piece-init
loop-piece-init c =
    let line = c.args.line.now in
    let same : remaining_pieces c.into_iter-piece-iterator.result ≡ pieces line = ap remaining_pieces c.into_iter-piece-iterator.ensures.into_iter_gives ∙ c.new-piece-items.ensures in
    (tt, tt, ap (λ parts. book_after_parts c.args.blanks c.args.case parts c.args.slip.now) same, subst (AllEndBy (length line)) (sym same) (all_end line [] (length line) 0 (omega arith)))
