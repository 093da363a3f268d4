-- The table of refusals, as docs/RULES.md has it: each fault's number, the layer that it names, and its place. A fault that holds
-- a lower one keeps the lower one's number.
use Rattle.std.specs.Prelude.{ℕ}
use Rattle.book.specs.declared.call_fault.CallFault.{CallFault}
use Rattle.book.specs.declared.call_fault.CallFault.TheVariants as calls
use Rattle.book.specs.declared.code_fault.CodeFault.{CodeFault}
use Rattle.book.specs.declared.code_fault.CodeFault.TheVariants.{Short, Long, Records, Working, Doubts, Unfit}
use Rattle.book.specs.declared.slip_fault.SlipFault.{SlipFault}
use Rattle.book.specs.declared.slip_fault.SlipFault.TheVariants.{Symbol, Full, Absent}
use Rattle.fields.specs.declared.fault.FieldFault.{FieldFault}
use Rattle.fields.specs.declared.fault.FieldFault.TheVariants.{Zero, Exponent}
use Rattle.lists.specs.declared.fault.ListFault.{ListFault}
use Rattle.lists.specs.declared.fault.ListFault.TheVariants as lists
use Rattle.sheet.specs.declared.fault.LineFault.{LineFault}
use Rattle.sheet.specs.declared.fault.LineFault.TheVariants.{OnSlip, OutsideSet, OtherCase, SymbolCount, LateTime}
use Rattle.sheet.specs.declared.refusal.Layer.{Layer}
use Rattle.sheet.specs.declared.refusal.Layer.TheVariants.{Field, List, Code, Slip, Line, Sheet}
use Rattle.sheet.specs.declared.refusal.Refusal.{Refusal}
use Rattle.sheet.specs.declared.sheet_fault.Cause.{Cause}
use Rattle.sheet.specs.declared.sheet_fault.Cause.TheVariants as causes
use Rattle.sheet.specs.declared.sheet_fault.SheetFault.{SheetFault}

abbrev pub entry : ℕ → Layer → ℕ → Refusal
entry number layer place = record { number = number; layer = layer; place = place }

abbrev pub slip_refusal : SlipFault → Refusal
slip_refusal Symbol = entry 1 Slip 0
slip_refusal Full = entry 2 Slip 0
slip_refusal (Absent place) = entry 3 Slip place

abbrev pub code_refusal : CodeFault → Refusal
code_refusal Short = entry 4 Code 0
code_refusal Long = entry 5 Code 0
code_refusal Records = entry 6 Code 0
code_refusal Working = entry 7 Code 0
code_refusal Doubts = entry 8 Code 0
code_refusal Unfit = entry 9 Code 0

abbrev pub call_refusal : CallFault → Refusal
call_refusal (calls.Slip fault) = slip_refusal fault
call_refusal (calls.Code fault) = code_refusal fault

abbrev pub field_refusal : FieldFault → Refusal
field_refusal Zero = entry 12 Field 0
field_refusal Exponent = entry 13 Field 0

abbrev pub list_refusal : ListFault → Refusal
list_refusal lists.Empty = entry 10 List 0
list_refusal lists.Short = entry 11 List 0
list_refusal (lists.Field fault) = entry (field_refusal fault).number List 0

abbrev pub line_refusal : LineFault → Refusal
line_refusal (OnSlip fault byte) = entry (slip_refusal fault).number Line byte
line_refusal (OutsideSet byte) = entry 14 Line byte
line_refusal (OtherCase byte) = entry 15 Line byte
line_refusal SymbolCount = entry 16 Line 0
line_refusal LateTime = entry 17 Line 0

abbrev pub cause_refusal : Cause → Refusal
cause_refusal (causes.Line fault) = line_refusal fault
cause_refusal (causes.Code fault) = code_refusal fault

-- the place is the cause's; the line's number is in the fault
abbrev pub sheet_refusal : SheetFault → Refusal
sheet_refusal fault = let cause = cause_refusal fault.cause in entry cause.number Sheet cause.place
