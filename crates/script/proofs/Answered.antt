-- What a slip's own calls answer is what follows.
--   wrote, blanked, doubted, wiped   from the equations of each call
--   sealed                           from those of a seal, by a code whose seals seal
use Rattle.std.proofs.Common.{◌≡◌, ℕ, ◌+◌, Bool, true, false, cond, eqb, ltb, List, ◌++◌, map, length, Ok, Err, Result, sym, refl, ap, ◌∙◌, subst}
use Rattle.algebra.specs.Code.{Code, checks}
use Rattle.algebra.specs.Field.{FieldOn, Enumeration}
use Rattle.book.specs.Book as book
use Rattle.book.specs.Book.{Book, undoubted_place, row, fresh_book, answer_of, book_after}
use Rattle.book.specs.Calls.{BookCall, BookAnswer, Follows, plain_answer, done, listed, solve, settle, solves, settles, write, blank, doubt, wipe, seal, writes, blanks, doubting, wipes, unsealed, seals}
use Rattle.algebra.specs.NumericCode.{NumericCode, numeric_code}
use Rattle.book.specs.Codes.{IsSeal}
use Rattle.book.specs.declared.call_fault.CallFault.{CallFault}
use Rattle.book.specs.declared.call_fault.CallFault.TheVariants.{Slip as of_slip, Code as of_code}
use Rattle.book.specs.declared.code_fault.CodeFault.{CodeFault}
use Rattle.book.specs.declared.code_fault.CodeFault.TheVariants.{Short, Long}
use Rattle.book.specs.declared.slip_fault.SlipFault.{SlipFault}
use Rattle.book.specs.declared.record.Record.{Record}
use Rattle.correction.specs.Answers.{IsFound}
use Rattle.slip.specs.Sealing.{check_symbols, sealed_book}

-- the answer without the book says as much
said_answer : {Fault : Type 0} (as_call : Fault → CallFault) (x : Result Book Fault) → plain_answer as_call (answer_of x) ≡ plain_answer as_call x
said_answer as_call (Ok next) = refl
said_answer as_call (Err fault) = refl

follows_by : {b : Book} {c : BookCall} {a a' : BookAnswer} {next next' : Book} → a' ≡ a → next' ≡ next → Follows b c a next → Follows b c a' next'
follows_by {b} {c} {a} {a'} {next} {next'} p q f = subst (λ (d : Book). Follows b c a' d) (sym q) (subst (λ (x : BookAnswer). Follows b c x next) (sym p) f)

module _ (b next : Book) (a : BookAnswer) where
  module _ (r : Result (Unit {0}) SlipFault) (is : a ≡ plain_answer of_slip r) where
    pub wrote : (v : ℕ) → r ≡ answer_of (book.write v b) → next ≡ book_after b (book.write v b) → Follows b (write v) a next
    wrote v p q = follows_by (is ∙ ap (plain_answer of_slip) p ∙ said_answer of_slip (book.write v b)) q writes

    pub blanked : r ≡ answer_of (book.blank b) → next ≡ book_after b (book.blank b) → Follows b blank a next
    blanked p q = follows_by (is ∙ ap (plain_answer of_slip) p ∙ said_answer of_slip (book.blank b)) q blanks

    pub doubted : (place : ℕ) → r ≡ answer_of (book.doubt place b) → next ≡ book_after b (book.doubt place b) → Follows b (doubt place) a next
    doubted place p q = follows_by (is ∙ ap (plain_answer of_slip) p ∙ said_answer of_slip (book.doubt place b)) q doubting

pub wiped : (b next : Book) → next ≡ fresh_book → Follows b wipe done next
wiped b next q = follows_by refl q wipes

module _ {S E : Type 0} (N : Enumeration S) (s : FieldOn S) (C : Code S E) (b : Book) where
  seal_follows : IsSeal (numeric_code N s C) (row b) (check_symbols N s C (row b))
      → Follows b (seal (numeric_code N s C)) (plain_answer of_code (sealed_book N s C b)) (book_after b (sealed_book N s C b))
  seal_follows good = by (eqb (length b) 0) (ltb C.limit (length b + checks C)) refl refl
    where
      by : (x y : Bool) → eqb (length b) 0 ≡ x → ltb C.limit (length b + checks C) ≡ y
          → Follows b (seal (numeric_code N s C)) (plain_answer of_code (cond x (Err Short) (cond y (Err Long) (Ok (b ++ map undoubted_place (check_symbols N s C (row b)))))))
          (book_after b (cond x (Err Short) (cond y (Err Long) (Ok (b ++ map undoubted_place (check_symbols N s C (row b)))))))
      by true y p q = unsealed {fault = Short} (simp p)
      by false true p q = unsealed {fault = Long} (simp (p, q))
      by false false p q = seals (simp (p, q)) good

  sealed_of : (r : Result (Unit {0}) CodeFault) (next : Book) → IsSeal (numeric_code N s C) (row b) (check_symbols N s C (row b))
      → r ≡ answer_of (sealed_book N s C b) → next ≡ book_after b (sealed_book N s C b) → Follows b (seal (numeric_code N s C)) (plain_answer of_code r) next
  sealed_of r next good p q = follows_by (ap (plain_answer of_code) p ∙ said_answer of_code (sealed_book N s C b)) q (seal_follows good)

  pub sealed : (codes : NumericCode) → codes ≡ numeric_code N s C → (r : Result (Unit {0}) CodeFault) (next : Book) → IsSeal codes (row b) (check_symbols N s C (row b))
      → r ≡ answer_of (sealed_book N s C b) → next ≡ book_after b (sealed_book N s C b) → Follows b (seal codes) (plain_answer of_code r) next
  sealed codes is r next good p q =
      subst (λ (k : NumericCode). Follows b (seal k) (plain_answer of_code r) next) (sym is)
      (sealed_of r next (subst (λ (k : NumericCode). IsSeal k (row b) (check_symbols N s C (row b))) is good) p q)

-- what is found is what a solve lists, and what a settle puts in place
module _ {C : NumericCode} {r w : ℕ} {b : Book} {cs : List Record} {n : ℕ} {next : Book} where
  pub solve_gives : IsFound C r w b cs n next → Follows b (solve C r w) (listed cs (length cs) n) b
  solve_gives f = solves f.gives

  pub settle_gives : IsFound C r w b cs n next → Follows b (settle C r w) (listed cs (length cs) n) next
  settle_gives f = follows_by refl f.settled (settles f.gives)
