-- The calls on a slip that a typed line is short for.
--   calls_of   a wipe, and then a write or a blank for each character of the line's groups
--   all_done   calls that are all accepted
use Rattle.std.specs.Prelude.{ℕ, List, [], ◌∷◌, map, Some, None, Option}
use Rattle.std.specs.List.{flat_map}
use Rattle.book.specs.Calls.{BookAnswer, BookCall, blank, done, wipe, write}
use Rattle.sheet.specs.Pieces.{Part, group, remark, pieces}
use Rattle.sheet.specs.Characters.{read_character}
use Rattle.sheet.specs.declared.characters.Character.{Character}
use Rattle.sheet.specs.declared.characters.Character.TheVariants.{Symbol, QuestionMark}

-- the call that a character is short for
abbrev pub call_of : Option Character → List BookCall
call_of (Some (Symbol v)) = write v ∷ []
call_of (Some QuestionMark) = blank ∷ []
call_of None = []

abbrev pub calls_of_bytes : List ℕ → List BookCall
calls_of_bytes bytes = flat_map (λ byte. call_of (read_character byte)) bytes

abbrev pub calls_of_part : Part → List BookCall
calls_of_part (group place bytes) = calls_of_bytes bytes
calls_of_part (remark place bytes) = []

abbrev pub calls_of : List ℕ → List BookCall
calls_of line = wipe ∷ flat_map calls_of_part (pieces line)

abbrev pub all_done : List BookCall → List (BookCall × BookAnswer)
all_done calls = map (λ call. (call, done)) calls
