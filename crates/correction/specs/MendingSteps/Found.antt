-- What is found by a search for the near row.
--   IsFinding   records that lead to the near row
--   SearchFinds   an answer of a search: such records, or why there are none
use Rattle.std.specs.Prelude.{◌≡◌, ℕ, ◌≤◌, List, length, None, Ok, Err, Result}
use Rattle.book.specs.Book.{Book}
use Rattle.book.specs.Calls.{SearchGives, refused, search_fault}
use Rattle.book.specs.declared.call_fault.CallFault.TheVariants.{Code as of_code}
use Rattle.algebra.specs.NumericCode.{NumericCode}
use Rattle.book.specs.Codes.{IsNear}
use Rattle.book.specs.Mending.{changes, IsOnlyPattern}
use Rattle.book.specs.declared.code_fault.CodeFault.{CodeFault}
use Rattle.book.specs.declared.record.Record.{Record}
use Rattle.correction.specs.declared.pattern.Pattern.{Pattern}

pub record IsFinding (C : NumericCode) (r w : ℕ) (b : Book) (cs : List Record) : Type 0 where
  pub meant : List ℕ
  pub workable : search_fault C r w b ≡ None
  pub near : IsNear C b meant
  pub listed : cs ≡ changes C b meant
  pub only : IsOnlyPattern C b meant cs
  pub room : length cs ≤ r

abbrev pub SearchFinds : NumericCode → ℕ → ℕ → Book → Result Pattern CodeFault → Type 0
SearchFinds C r w b (Ok pattern) = IsFinding C r w b pattern
SearchFinds C r w b (Err fault) = SearchGives C r w b (refused (of_code fault)) None
