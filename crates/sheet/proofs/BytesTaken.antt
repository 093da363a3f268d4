-- What was taken, from its answer and the book that is left.
use Rattle.std.proofs.Common.{◌≡◌, ℕ, Ok, Err, Result, sym, ap, arith}
use Rattle.book.specs.Book.{Book, answer_of, book_after, fresh_book}
use Rattle.sheet.specs.declared.fault.LineFault.{LineFault}

pub accepted : (taken : Result Book LineFault) (b : Book) → ◌≡◌ {A = Result (Unit {0}) LineFault} (Ok tt) (answer_of taken) → b ≡ book_after fresh_book taken → taken ≡ Ok b
accepted (Ok next) b a e = ap Ok (sym e)
accepted (Err fault) b a e = let z : ◌≡◌ {A = ℕ} 0 1 = cc in absurd (omega arith)

pub refused : (taken : Result Book LineFault) (fault : LineFault) → ◌≡◌ {A = Result (Unit {0}) LineFault} (Err fault) (answer_of taken) → taken ≡ Err fault
refused (Ok next) fault a = let z : ◌≡◌ {A = ℕ} 0 1 = cc in absurd (omega arith)
refused (Err other) fault a = cc
