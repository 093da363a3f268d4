-- Worked examples of mending by the finish code: books, what solve and settle answer to each, and the row that is near it.
use Rattle.std.specs.List.{AllByRecursion}
use Rattle.std.specs.Prelude.{◌≡◌, ℕ, List, [], ◌∷◌, ◌++◌, map, Some, None, Option}
use Rattle.book.specs.Book.{Book, undoubted_place, doubted_place, mark}
use Rattle.book.specs.Calls.{BookCall, BookAnswer, Follows, solve, settle, refused, listed}
use Rattle.book.specs.Codes.{IsNear}
use Rattle.book.specs.declared.call_fault.CallFault.TheVariants.{Code as of_code}
use Rattle.book.specs.declared.code_fault.CodeFault.TheVariants.{Unfit}
use Rattle.book.specs.declared.record.Record.{Record}
use Rattle.checksum.specs.Finish.{finish_rows}

abbrev pub sent_row : List ℕ
sent_row = 4 ∷ 20 ∷ 20 ∷ 12 ∷ 15 ∷ 31 ∷ 0 ∷ 6 ∷ 10 ∷ 17 ∷ 15 ∷ 18 ∷ []

-- place 5 was not understood, and at place 10 there is 16
abbrev pub garbled_book : Book
garbled_book = map undoubted_place (4 ∷ 20 ∷ 20 ∷ 12 ∷ 15 ∷ []) ++ (doubted_place 0 ∷ map undoubted_place (0 ∷ 6 ∷ 10 ∷ 17 ∷ 16 ∷ 18 ∷ []))

-- other check symbols
abbrev pub unsound_book : Book
unsound_book = map undoubted_place (4 ∷ 20 ∷ 20 ∷ 12 ∷ 15 ∷ 31 ∷ 0 ∷ 6 ∷ 11 ∷ 13 ∷ 25 ∷ 15 ∷ [])

-- the same, the check symbols doubted
abbrev pub unchecked_book : Book
unchecked_book = map undoubted_place (4 ∷ 20 ∷ 20 ∷ 12 ∷ 15 ∷ 31 ∷ 0 ∷ 6 ∷ []) ++ map doubted_place (11 ∷ 13 ∷ 25 ∷ 15 ∷ [])

abbrev example_record : ℕ → ℕ → Record
example_record p c = record { place = p; change = c }

abbrev none_near : BookAnswer
none_near = refused (of_code Unfit)

-- a call on a book has this answer and leaves this book, and has and leaves no other
pub record OnlyGives (before : Book) (call : BookCall) (answer : BookAnswer) (after : Book) : Type 0 where
  pub gives : Follows before call answer after
  pub nothing_else : (other : BookAnswer) (next : Book) → Follows before call other next → (other ≡ answer) × (next ≡ after)

-- the rows near a book are this one alone, or none
abbrev pub OnlyNear : Book → Option (List ℕ) → Type 0
OnlyNear b (Some n) = IsNear finish_rows b n × ((m : List ℕ) → IsNear finish_rows b m → m ≡ n)
OnlyNear b None = (m : List ℕ) → ¬ IsNear finish_rows b m

pub record Example : Type 0 where
  pub before : Book
  pub answer : BookAnswer
  pub near : Option (List ℕ)
  -- what a settle leaves
  pub after_settle : Book

-- what is proved of an example, the calls being passed as many records and working entries as the code needs
pub record Solves (example : Example) : Type 0 where
  pub near : OnlyNear example.before example.near
  pub solved : OnlyGives example.before (solve finish_rows 4 72) example.answer example.before
  pub settled : OnlyGives example.before (settle finish_rows 4 72) example.answer example.after_settle

-- the row that was sent is found
abbrev pub mendable_example : Book → List Record → ℕ → ℕ → Example
mendable_example b records written nonzero =
    record { before = b; answer = listed records written nonzero; near = Some sent_row; after_settle = map undoubted_place sent_row }

-- no row is near, and the slip is left as it was
abbrev pub unmendable_example : Book → Example
unmendable_example b = record { before = b; answer = none_near; near = None; after_settle = b }

abbrev pub examples : List Example
examples =
    mendable_example garbled_book (example_record 5 31 ∷ example_record 10 31 ∷ []) 2 2
    -- one more doubt, and the row is the same
    ∷ mendable_example (mark 3 garbled_book) (example_record 3 0 ∷ example_record 5 31 ∷ example_record 10 31 ∷ []) 3 2
    -- two more doubts are too many
    ∷ unmendable_example (mark 4 (mark 3 garbled_book))
    ∷ unmendable_example unsound_book
    ∷ mendable_example unchecked_book (example_record 8 1 ∷ example_record 9 28 ∷ example_record 10 22 ∷ example_record 11 29 ∷ []) 4 4
    ∷ []

abbrev pub ExamplesMend : Type 0
ExamplesMend = AllByRecursion Solves examples
