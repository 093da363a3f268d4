-- The calls on a slip, and what each answers.
--   BookCall   a call with its arguments; r and w are the lengths of the lists lent for records and for working in
--   BookAnswer   done; refused, with the fault; listed, with how many records and how many nonzero changes
--   seal_fault, search_fault   the first reason to refuse that book and arguments alone give, if any
--   SearchGives   what a search for a near row answers, and the row that it gives, if any
--   Follows   a call on a book, its answer, and the book after it
--   IsDecided   a call has one answer on each book, and leaves one book
use Rattle.std.specs.Prelude.{◌≡◌, ℕ, ◌+◌, ◌*◌, Bool, cond, List, [], ◌∷◌, ◌++◌, map, length, Some, None, Ok, Err, Option, Result, ◌==◌, nat_le, nat_lt}
use Rattle.book.specs.Book as book
use Rattle.book.specs.Book.{Book, undoubted_place, row, doubts, fresh_book, book_after}
use Rattle.algebra.specs.NumericCode.{NumericCode}
use Rattle.book.specs.Codes.{IsNear, IsSeal}
use Rattle.book.specs.Mending.{changes, nonzero_count}
use Rattle.book.specs.declared.call_fault.CallFault.{CallFault}
use Rattle.book.specs.declared.call_fault.CallFault.TheVariants.{Slip as of_slip, Code as of_code}
use Rattle.book.specs.declared.code_fault.CodeFault.{CodeFault}
use Rattle.book.specs.declared.code_fault.CodeFault.TheVariants.{Short, Long, Records, Working, Doubts, Unfit}
use Rattle.book.specs.declared.record.Record.{Record}

pub data BookCall : Type 0 where
  write : ℕ → BookCall
  blank : BookCall
  doubt : ℕ → BookCall
  wipe : BookCall
  seal : NumericCode → BookCall
  solve : NumericCode → ℕ → ℕ → BookCall
  settle : NumericCode → ℕ → ℕ → BookCall

pub data BookAnswer : Type 0 where
  done : BookAnswer
  refused : CallFault → BookAnswer
  listed : List Record → ℕ → ℕ → BookAnswer

-- what is answered by a call that lists nothing
abbrev pub plain_answer : {X Fault : Type 0} → (Fault → CallFault) → Result X Fault → BookAnswer
plain_answer as_call (Ok _) = done
plain_answer as_call (Err fault) = refused (as_call fault)

-- the answer that lists how a book's row becomes n
abbrev pub listing_of : NumericCode → Book → List ℕ → BookAnswer
listing_of C b n = listed (changes C b n) (length (changes C b n)) (nonzero_count C (changes C b n))

abbrev pub first_fault : List (Bool × CodeFault) → Option CodeFault
first_fault [] = None
first_fault (t ∷ ts) = cond t.0 (Some t.1) (first_fault ts)

abbrev pub seal_fault : NumericCode → Book → Option CodeFault
seal_fault C b = first_fault (((length b == 0), Short) ∷ (nat_lt C.limit (length b + C.checks), Long) ∷ [])

abbrev pub search_fault : NumericCode → ℕ → ℕ → Book → Option CodeFault
search_fault C r w b = first_fault
    ((nat_le (length b) C.checks, Short) ∷ (nat_lt C.limit (length b), Long) ∷ (nat_lt r C.bound, Records)
    ∷ (nat_lt w (12 * (C.bound + 2)), Working) ∷ (nat_lt C.bound (doubts b), Doubts) ∷ [])

pub data SearchGives (C : NumericCode) (r w : ℕ) (b : Book) : BookAnswer → Option (List ℕ) → Type 0 where
  barred : {fault : CodeFault} → search_fault C r w b ≡ Some fault → SearchGives C r w b (refused (of_code fault)) None
  none_near : search_fault C r w b ≡ None → ((n : List ℕ) → ¬ IsNear C b n) → SearchGives C r w b (refused (of_code Unfit)) None
  one_near : {n : List ℕ} → search_fault C r w b ≡ None → IsNear C b n → SearchGives C r w b (listing_of C b n) (Some n)

-- the book with a row that was found put there, nothing doubted
abbrev pub settled_book : Book → Option (List ℕ) → Book
settled_book b None = b
settled_book b (Some n) = map undoubted_place n

pub data Follows : Book → BookCall → BookAnswer → Book → Type 0 where
  writes : {b : Book} {v : ℕ} → Follows b (write v) (plain_answer of_slip (book.write v b)) (book_after b (book.write v b))
  blanks : {b : Book} → Follows b blank (plain_answer of_slip (book.blank b)) (book_after b (book.blank b))
  doubting : {b : Book} {p : ℕ} → Follows b (doubt p) (plain_answer of_slip (book.doubt p b)) (book_after b (book.doubt p b))
  wipes : {b : Book} → Follows b wipe done fresh_book
  unsealed : {b : Book} {C : NumericCode} {fault : CodeFault} → seal_fault C b ≡ Some fault → Follows b (seal C) (refused (of_code fault)) b
  seals : {b : Book} {C : NumericCode} {cs : List ℕ} → seal_fault C b ≡ None → IsSeal C (row b) cs → Follows b (seal C) done (b ++ map undoubted_place cs)
  solves : {b : Book} {C : NumericCode} {r w : ℕ} {a : BookAnswer} {found : Option (List ℕ)} → SearchGives C r w b a found → Follows b (solve C r w) a b
  settles : {b : Book} {C : NumericCode} {r w : ℕ} {a : BookAnswer} {found : Option (List ℕ)} → SearchGives C r w b a found → Follows b (settle C r w) a (settled_book b found)

abbrev pub IsDecided : BookCall → Type 0
IsDecided call = (b : Book) (a a' : BookAnswer) (next next' : Book)
    → Follows b call a next → Follows b call a' next' → (a ≡ a') × (next ≡ next')
