-- Sealing a book by a code.
--   elements_of    the elements that a row's numbers stand for
--   check_symbols  the numbers of the symbols that seal a book's row
--   sealed_book    the book after a seal, or why the code refuses
use Rattle.std.specs.Prelude.{ℕ, ◌+◌, cond, List, ◌++◌, map, length, Ok, Err, Result, ◌==◌, nat_lt}
use Rattle.algebra.specs.Code as code
use Rattle.algebra.specs.Code.{Code, checks}
use Rattle.algebra.specs.Field.{FieldOn, Enumeration}
use Rattle.book.specs.Book.{Book, row, undoubted_place}
use Rattle.book.specs.declared.code_fault.CodeFault.{CodeFault}
use Rattle.book.specs.declared.code_fault.CodeFault.TheVariants.{Short, Long}

module _ {S : Type 0} (N : Enumeration S) where
  abbrev pub elements_of : List ℕ → List S
  elements_of numbers = map N.element numbers

  module _ {E : Type 0} (F : FieldOn S) (C : Code S E) where
    abbrev pub check_symbols : List ℕ → List ℕ
    check_symbols numbers = map N.number (code.seal F C (elements_of numbers))

    -- the check symbols more, undoubted: there has to be something to seal, and then the limit has to leave room for them
    abbrev pub sealed_book : Book → Result Book CodeFault
    sealed_book b = cond (length b == 0) (Err Short) (cond (nat_lt C.limit (length b + checks C)) (Err Long) (Ok (b ++ map undoubted_place (check_symbols (row b)))))
