-- What a typed line does to a slip's book.
--   before_slash   the part of a line that holds its groups
--   line_case      the case of a line
--   book_after_byte   one byte of a group: the book after it, or why the byte is refused
--   take_line      a whole line, on a fresh book
use Rattle.std.specs.Prelude.{ℕ, ◌+◌, Bool, cond, List, [], ◌∷◌, Some, None, Ok, Err, Option, Result, ◌==◌}
use Rattle.std.specs.List.{before_first}
use Rattle.std.specs.Option.{unwrap_or}
use Rattle.std.specs.Char.{is_ascii_lowercase, is_ascii_uppercase}
use Rattle.book.specs.Book.{Book, fresh_book, write, blank}
use Rattle.sheet.specs.Characters.{letter_case, read_character}
use Rattle.sheet.specs.Pieces.{Part, group, remark, pieces}
use Rattle.sheet.specs.declared.characters.Character.{Character}
use Rattle.sheet.specs.declared.characters.Character.TheVariants.{Symbol, QuestionMark}
use Rattle.sheet.specs.declared.characters.Case.{Case}
use Rattle.sheet.specs.declared.characters.Case.TheVariants.{Lower, Upper}
use Rattle.sheet.specs.declared.fault.LineFault.{LineFault}
use Rattle.sheet.specs.declared.fault.LineFault.TheVariants.{OnSlip, OutsideSet, OtherCase}
use Rattle.sheet.specs.declared.taking.ByteFault.{ByteFault}
use Rattle.sheet.specs.declared.taking.ByteFault.TheVariants as faults

abbrev pub before_slash : List ℕ → List ℕ
before_slash line = before_first (λ byte. byte == 47) line

-- the case of a line is that of its first letter, small where it has none
abbrev pub line_case : List ℕ → Case
line_case [] = Lower
line_case (byte ∷ bytes) = unwrap_or (letter_case byte) (line_case bytes)

-- whether a byte is a letter of the other case
abbrev pub is_other_case : Case → ℕ → Bool
is_other_case Lower byte = is_ascii_uppercase byte
is_other_case Upper byte = is_ascii_lowercase byte

-- what a step answers, with its fault as the step above names it
abbrev pub refused_as : {E F : Type 0} → (E → F) → Result Book E → Result Book F
refused_as name (Ok b) = Ok b
refused_as name (Err fault) = Err (name fault)

-- a byte by what it says: it has to be of the set, then of the line's case, and then there has to be room;
-- a question mark is a blank, or outside the set where no blanks are allowed
abbrev pub book_after_character : Bool → Case → ℕ → Option Character → Book → Result Book ByteFault
book_after_character blanks case byte (Some (Symbol v)) b =
    cond (is_other_case case byte) (Err faults.OtherCase) (refused_as faults.OnSlip (write v b))
book_after_character blanks case byte (Some QuestionMark) b =
    cond blanks (refused_as faults.OnSlip (blank b)) (Err faults.OutsideSet)
book_after_character blanks case byte None b = Err faults.OutsideSet

-- a space does nothing
abbrev pub book_after_byte : Bool → Case → ℕ → Book → Result Book ByteFault
book_after_byte blanks case byte b =
    cond (byte == 32) (Ok b) (book_after_character blanks case byte (read_character byte) b)

-- why a line is refused that has a bad byte at a place
abbrev pub fault_at : ℕ → ByteFault → LineFault
fault_at place (faults.OnSlip fault) = OnSlip fault place
fault_at place faults.OutsideSet = OutsideSet place
fault_at place faults.OtherCase = OtherCase place

abbrev pub and_then : {X Y Fault : Type 0} → Result X Fault → (X → Result Y Fault) → Result Y Fault
and_then (Ok x) next = next x
and_then (Err fault) next = Err fault

-- bytes one after another, the first being at a place
abbrev pub book_after_bytes : Bool → Case → ℕ → List ℕ → Book → Result Book LineFault
book_after_bytes blanks case place [] b = Ok b
book_after_bytes blanks case place (byte ∷ bytes) b =
    and_then (refused_as (fault_at place) (book_after_byte blanks case byte b))
    (book_after_bytes blanks case (place + 1) bytes)

-- the groups among some pieces, one after another
abbrev pub book_after_parts : Bool → Case → List Part → Book → Result Book LineFault
book_after_parts blanks case [] b = Ok b
book_after_parts blanks case (group place bytes ∷ parts) b =
    and_then (book_after_bytes blanks case place bytes b) (book_after_parts blanks case parts)
book_after_parts blanks case (remark place bytes ∷ parts) b = book_after_parts blanks case parts b

abbrev pub take_line : Bool → List ℕ → Result Book LineFault
take_line blanks line =
    book_after_parts blanks (line_case (before_slash line)) (pieces line) fresh_book

-- an answer with the book that is left
abbrev pub book_outcome : {Fault : Type 0} → Result (Unit {0}) Fault → Book → Result Book Fault
book_outcome (Ok _) b = Ok b
book_outcome (Err fault) b = Err fault
