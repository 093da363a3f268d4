-- What the hut tells of a sheet, in the words of its slip's book.
--   finish_numeric  the finish code as its rows know it
--   Says         what a typed line says: a finish, or why it is refused
--   OnlySays     it says this, and nothing else
--   outcome_at   the same of a line of a sheet, by its number
--   report_of    what is shown of it
--   ShowsLine    a text is the output line of what a typed line says
--   ShowsLines   the first lines of a sheet, counted from 1, each have their output line
--   Whole        each line of a sheet has its output line, and there is nothing else
use Rattle.std.specs.Prelude.{◌≡◌, ℕ, ◌+◌, ◌*◌, ◌<◌, true, List, [], length, take, drop, Some, None, Ok, Err, Result, slice_index_or}
use Rattle.checksum.specs.Finish as codes
use Rattle.book.specs.Book.{Book}
use Rattle.book.specs.Calls.{SearchGives, listing_of, refused}
use Rattle.algebra.specs.NumericCode.{NumericCode}
use Rattle.book.specs.Mending.{changes, nonzero_count}
use Rattle.book.specs.declared.call_fault.CallFault.TheVariants as calls
use Rattle.book.specs.declared.code_fault.CodeFault.{CodeFault}
use Rattle.sheet.specs.Refusals.{sheet_refusal}
use Rattle.sheet.specs.ReadingOff.{read_off, whole_seconds}
use Rattle.sheet.specs.Taking.{take_line}
use Rattle.sheet.specs.declared.fault.LineFault.{LineFault}
use Rattle.sheet.specs.OutputLines.{output_line}
use Rattle.sheet.specs.declared.output_line.Report.{Report}
use Rattle.sheet.specs.declared.reading.Reading.{Reading}
use Rattle.sheet.specs.declared.sheet_fault.Cause.{Cause}
use Rattle.sheet.specs.declared.sheet_fault.Cause.TheVariants as causes
use Rattle.sheet.specs.declared.sheet_fault.SheetFault.{SheetFault}

abbrev pub finish_numeric : NumericCode
finish_numeric = codes.finish_rows

-- a line is taken onto a slip, its row is mended by a code, with 16 records and a working list of 216, and read off;
-- the first of the three that is refused decides
pub data Says (C : NumericCode) (line : List ℕ) : Result Reading Cause → Type 0 where
  not_taken : {fault : LineFault} → take_line true line ≡ Err fault → Says C line (Err (causes.Line fault))
  not_mended : {b : Book} {fault : CodeFault} → take_line true line ≡ Ok b
      → SearchGives C 16 216 b (refused (calls.Code fault)) None → Says C line (Err (causes.Code fault))
  not_read : {b : Book} {n : List ℕ} {fault : LineFault} → take_line true line ≡ Ok b → SearchGives C 16 216 b (listing_of C b n) (Some n)
      → read_off n ≡ Err fault → Says C line (Err (causes.Line fault))
  finishes : {b : Book} {n : List ℕ} {sail tenths : ℕ} → take_line true line ≡ Ok b → SearchGives C 16 216 b (listing_of C b n) (Some n)
      → read_off n ≡ Ok (sail, tenths) → Says C line (Ok (record { changes = nonzero_count C (changes C b n); sail = sail; tenths = tenths }))

-- a sheet adds the line's number to the cause
abbrev pub outcome_at : ℕ → Result Reading Cause → Result Reading SheetFault
outcome_at number (Ok reading) = Ok reading
outcome_at number (Err cause) = Err (record { line = number; cause = cause })

-- of a refused line nothing is shown but its number and that of the refusal
abbrev pub report_of : ℕ → Result Reading SheetFault → Report
report_of number (Ok r) =
    record { line = number; refusal = 0; changes = r.changes; sail = r.sail; seconds = whole_seconds r.tenths }
report_of number (Err fault) = record { line = fault.line; refusal = (sheet_refusal fault).number; changes = 0; sail = 0; seconds = 0 }

pub record OnlySays (C : NumericCode) (line : List ℕ) (outcome : Result Reading Cause) : Type 0 where
  pub says : Says C line outcome
  pub nothing_else : (other : Result Reading Cause) → Says C line other → other ≡ outcome

abbrev pub ShowsLine : NumericCode → ℕ → List ℕ → List ℕ → Type 0
ShowsLine C number line text = (outcome : Result Reading Cause) × OnlySays C line outcome
    × (text ≡ output_line (report_of number (outcome_at number outcome)))

-- the output lines stand one after another, of 31 bytes each
abbrev pub ShowsLines : NumericCode → ℕ → List (List ℕ) → List ℕ → Type 0
ShowsLines C m lines bytes = (k : ℕ) → k < m → ShowsLine C (k + 1) (slice_index_or lines k []) (take 31 (drop (31 * k) bytes))

abbrev pub Whole : NumericCode → List (List ℕ) → List ℕ → Type 0
Whole C lines bytes = (length bytes ≡ 31 * length lines) × ShowsLines C (length lines) lines bytes
