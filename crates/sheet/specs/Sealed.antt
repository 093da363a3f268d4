-- The sealed row of a boat's line, as text.
use Rattle.std.specs.Prelude.{ℕ, false, cond, List, ◌++◌, length, Ok, Err, Result, ◌==◌}
use Rattle.checksum.specs.Finish.{finish}
use Rattle.fields.specs.Gf32.{gf32, gf32_numbers}
use Rattle.book.specs.Book.{row}
use Rattle.slip.specs.Sealing.{check_symbols}
use Rattle.sheet.specs.Groups.{in_groups}
use Rattle.sheet.specs.ReadingOff.{read_off}
use Rattle.sheet.specs.Taking.{and_then, before_slash, line_case, take_line}
use Rattle.sheet.specs.declared.characters.Case.{Case}
use Rattle.sheet.specs.declared.fault.LineFault.{LineFault}
use Rattle.sheet.specs.declared.fault.LineFault.TheVariants.{SymbolCount}

-- numbers of symbols, and after them those of the symbols that seal them by the finish code
abbrev pub sealed_row : List ℕ → List ℕ
sealed_row symbols = symbols ++ check_symbols gf32_numbers gf32 finish symbols

-- a row as text, unless the hut refuses what it says: a time past the last tenth of a second of a day
abbrev pub row_text : Case → List ℕ → Result (List ℕ) LineFault
row_text case row = and_then (read_off row) (λ _. Ok (in_groups case row))

-- a boat's line, in which nothing is unknown: four symbols for the boat and four for the time
abbrev pub sealed_line : List ℕ → Result (List ℕ) LineFault
sealed_line line = and_then (take_line false line) (λ b.
    cond (length b == 8) (row_text (line_case (before_slash line)) (sealed_row (row b))) (Err SymbolCount))
