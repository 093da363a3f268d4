-- What a slip's memory says of the book that it holds.
--   long, row_held, marks_held   how many places it has, their symbols and their marks
--   can_hold                     the book is one that a slip can hold
--   steps                        these, and what each call makes of the memory
use Rattle.std.proofs.Common.{◌≡◌, ℕ, ◌<◌, List, length, get_or, take, sym, ap, ◌∙◌, subst, inl, inr, arith, length-set}
use Rattle.std.proofs.lemmas.Bool.{cases_lt}
use Rattle.std.proofs.lemmas.Bool.Decides.{nat_tests}
use Rattle.std.proofs.lemmas.List.{get_or_past, length-take-le}
use Rattle.std.proofs.lemmas.List.Elements.{All-take}
use Rattle.std.specs.Prelude.{All}
use Rattle.book.specs.Book.{Book, marks, row}
use Rattle.slip.specs.View.{book_of, places_of, IsFilled, IsHoldable}
use Rattle.slip.specs.declared.slip.Slip.TheInside.{Inside}
use Rattle.slip.proofs.Places.{length_places, marks_places, places_mark, places_push, row_places}

-- past the end of a list stands 0
below_everywhere : (vs : List ℕ) → All (λ v. v < 32) vs → (k : ℕ) → get_or vs k 0 < 32
below_everywhere vs h k = elim (cases_lt k (length vs)) [ inl l ↦ h k 0 l | inr g ↦ omega (arith, get_or_past vs k 0 g) ]

module _ (s : Inside) (b : Book) (filled : IsFilled s) (held : book_of s ≡ b) where
  pub long : length b ≡ s.len
  long =
      let whole = length_places s.symbols s.doubted (filled.all_symbols ∙ sym filled.all_marks) in
      sym (ap length held) ∙ length-take-le s.len (places_of s.symbols s.doubted) (omega (arith, filled.all_symbols, filled.room))

  pub row_held : take s.len s.symbols ≡ row b
  row_held = sym (row_places s.symbols s.doubted s.len (omega (arith, filled.all_marks, filled.room))) ∙ ap row held

  pub marks_held : take s.len s.doubted ≡ marks b
  marks_held = sym (marks_places s.symbols s.doubted s.len (omega (arith, filled.all_symbols, filled.room))) ∙ ap marks held

  pub can_hold : IsHoldable b
  can_hold = record {
    room = omega (arith, long, filled.room);
    symbols = subst (All (λ v. v < 32)) row_held (All-take (λ v. v < 32) s.len s.symbols filled.below);
  }

  pub below : (k : ℕ) → get_or (take s.len s.symbols) k 0 < 32
  below = below_everywhere (take s.len s.symbols) (All-take (λ v. v < 32) s.len s.symbols filled.below)

pub ruleset steps = (long, row_held, marks_held, below, places_mark, places_push, length-set, nat_tests)
