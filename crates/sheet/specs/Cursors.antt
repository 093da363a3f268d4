-- What a piece holds, and what a cursor has yet to hand out.
use Rattle.std.specs.Prelude.{List, drop}
use Rattle.sheet.specs.Pieces.{Part, group, remark, pieces_from}
use Rattle.sheet.specs.declared.pieces.Piece.{Piece}
use Rattle.sheet.specs.declared.pieces.Piece.TheVariants.{Group, Remark}
use Rattle.sheet.specs.declared.pieces.Pieces.{Pieces}

abbrev pub part_of : Piece → Part
part_of (Group place bytes) = group place bytes.now
part_of (Remark place bytes) = remark place bytes.now

abbrev pub remaining_pieces : Pieces → List Part
remaining_pieces cursor = pieces_from cursor.place (drop cursor.place cursor.line.now)
