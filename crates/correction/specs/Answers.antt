-- What solve and settle answer, and what the lists that they are passed then hold.
--   search_answer    the answer of a call, its records being at the front of a list
--   listed_count     how many of them are the answer's
--   IsNearPattern    a list of records is the one pattern that fits, and leads to a near row
--   FindsNear        a search finds the row, its pattern and the book after it, or why none is given
--   ListsPattern     the records of an answer are the one pattern that fits
--   workspace_after  the working list after an answer: all ZERO once a row was looked for
use Rattle.std.specs.Prelude.{◌≡◌, ℕ, ◌≤◌, Bool, true, false, List, length, map, take, Some, None, Ok, Err, Result}
use Rattle.algebra.specs.Field.{FieldOn}
use Rattle.algebra.specs.NumericCode.{NumericCode}
use Rattle.book.specs.Book.{Book, undoubted_place}
use Rattle.book.specs.Calls.{BookAnswer, SearchGives, refused, listed}
use Rattle.book.specs.Codes.{IsNear}
use Rattle.book.specs.Mending.{IsOnlyPattern}
use Rattle.book.specs.declared.call_fault.CallFault.TheVariants.{Code as of_code}
use Rattle.book.specs.declared.code_fault.CodeFault.{CodeFault}
use Rattle.book.specs.declared.code_fault.CodeFault.TheVariants.{Unfit}
use Rattle.lists.specs.Faults.{zeros_if}
use Rattle.book.specs.declared.record.Record.{Record}
use Rattle.correction.specs.declared.found.Found.{Found}

abbrev pub search_answer : Result (ℕ × ℕ) CodeFault → List Record → BookAnswer
search_answer (Ok n) rs = listed (take n.0 rs) n.0 n.1
search_answer (Err fault) rs = refused (of_code fault)

abbrev pub listed_count : Result (ℕ × ℕ) CodeFault → ℕ
listed_count (Ok n) = n.0
listed_count (Err fault) = 0

-- cs makes the row of b a row that is near, and is the only pattern that fits
pub record IsNearPattern (C : NumericCode) (b : Book) (cs : List Record) : Type 0 where
  pub meant : List ℕ
  pub near : IsNear C b meant
  pub only : IsOnlyPattern C b meant cs

-- a search gives the row meant: cs are listed, so many of them nonzero, and next is the book with that row put there
pub record IsFound (C : NumericCode) (r w : ℕ) (b : Book) (cs : List Record) (nonzero : ℕ) (next : Book) : Type 0 where
  pub meant : List ℕ
  pub gives : SearchGives C r w b (listed cs (length cs) nonzero) (Some meant)
  pub only : IsOnlyPattern C b meant cs
  pub settled : next ≡ map undoubted_place meant
  pub room : length cs ≤ r

abbrev pub FindsNear : NumericCode → ℕ → ℕ → Book → Result Found CodeFault → Type 0
FindsNear C r w b (Ok found) = IsFound C r w b found.pattern found.nonzero found.mended
FindsNear C r w b (Err fault) = SearchGives C r w b (refused (of_code fault)) None

abbrev pub ListsPattern : NumericCode → Book → Result (ℕ × ℕ) CodeFault → List Record → Type 0
ListsPattern C b (Ok n) rs = IsNearPattern C b (take n.0 rs)
ListsPattern C b (Err fault) rs = Unit {0}

-- whether a row was looked for: only then was the working list written
abbrev pub is_searched : {X : Type 0} → Result X CodeFault → Bool
is_searched (Ok _) = true
is_searched (Err Unfit) = true
is_searched (Err _) = false

abbrev pub workspace_after : {E X : Type 0} → FieldOn E → Result X CodeFault → List E → List E
workspace_after F result work = zeros_if F (is_searched result) work
