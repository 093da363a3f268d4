-- The book of a slip: what its calls alone say that it holds.
--   Place, Book    a symbol, as a number, and whether it is doubted; a slip's places in their order
--   row, marks     the symbols of a book, and which of its places are doubted
--   mark, doubts   a book with one more place doubted, and how many are
--   fresh_book     the book of a new slip, and of one that was wiped
--   write, blank, doubt   the book after each call, or why the call is refused
--   answer_of, book_after   what a call answers, and the book that it leaves: a refusal changes nothing
--   symbol_at, doubted_at   what is read from a book
use Rattle.std.specs.Prelude.{ℕ, Bool, true, false, cond, [], ◌∷◌, ◌++◌, length, Ok, Err, Option, Result, nat_le, nat_lt, slice_index_or}
use Rattle.std.specs.List.{slice_get}
use Rattle.algebra.specs.Rows.{PlaceOf, BookOf}
pub use Rattle.algebra.specs.Rows.{symbols as row, doubted_places as marks, mark, doubts}
use Rattle.book.specs.declared.slip_fault.SlipFault.{SlipFault}
use Rattle.book.specs.declared.slip_fault.SlipFault.TheVariants.{Symbol, Full, Absent}

abbrev pub Place : Type 0
Place = PlaceOf ℕ

abbrev pub Book : Type 0
Book = BookOf ℕ

abbrev pub undoubted_place : ℕ → Place
undoubted_place v = record { symbol = v; doubted = false }

abbrev pub doubted_place : ℕ → Place
doubted_place v = record { symbol = v; doubted = true }

abbrev pub fresh_book : Book
fresh_book = []

-- a symbol more, undoubted: it has to be a symbol, and then there has to be room
abbrev pub write : ℕ → Book → Result Book SlipFault
write v b = cond (nat_lt 31 v) (Err Symbol) (cond (nat_le 89 (length b)) (Err Full) (Ok (b ++ undoubted_place v ∷ [])))

-- a symbol more that was not understood
abbrev pub blank : Book → Result Book SlipFault
blank b = cond (nat_le 89 (length b)) (Err Full) (Ok (b ++ doubted_place 0 ∷ []))

abbrev pub doubt : ℕ → Book → Result Book SlipFault
doubt place b = cond (nat_le (length b) place) (Err (Absent place)) (Ok (mark place b))

abbrev pub answer_of : {Fault : Type 0} → Result Book Fault → Result (Unit {0}) Fault
answer_of (Ok _) = Ok tt
answer_of (Err fault) = Err fault

abbrev pub book_after : {Fault : Type 0} → Book → Result Book Fault → Book
book_after b (Ok next) = next
book_after b (Err _) = b

abbrev pub symbol_at : ℕ → Book → Option ℕ
symbol_at place b = slice_get (row b) place

abbrev pub doubted_at : ℕ → Book → Bool
doubted_at place b = slice_index_or (marks b) place false
