-- The lines of a sheet.
--   lines_of   a newline ends a line, and so does the last byte; no bytes make no line
use Rattle.std.specs.Prelude.{ℕ, cond, List, [], ◌∷◌, ◌==◌}

-- lines with a byte more before them
abbrev pub with_byte_before : ℕ → List (List ℕ) → List (List ℕ)
with_byte_before byte [] = (byte ∷ []) ∷ []
with_byte_before byte (line ∷ lines) = (byte ∷ line) ∷ lines

abbrev pub lines_of : List ℕ → List (List ℕ)
lines_of [] = []
lines_of (byte ∷ bytes) =
    cond (byte == 10) ([] ∷ lines_of bytes) (with_byte_before byte (lines_of bytes))
