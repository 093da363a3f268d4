-- The book that a slip's memory holds.
--   book_of    the book
--   IsFilled   what is true of the memory of every slip
--   IsHoldable   what is true of the book of every slip
use Rattle.std.specs.Prelude.{◌≡◌, ℕ, ◌<◌, ◌≤◌, Bool, List, [], ◌∷◌, length, take, All}
use Rattle.book.specs.Book.{Place, Book, row}
use Rattle.slip.specs.declared.slip.Slip.TheInside.{Inside}

abbrev pub place_at : ℕ → Bool → Place
place_at symbol doubted = record { symbol = symbol; doubted = doubted }

-- symbols with their marks
abbrev pub places_of : List ℕ → List Bool → Book
places_of [] ds = []
places_of (v ∷ vs) [] = []
places_of (v ∷ vs) (d ∷ ds) = place_at v d ∷ places_of vs ds

abbrev pub book_of : Inside → Book
book_of s = take s.len (places_of s.symbols s.doubted)

pub record IsFilled (s : Inside) : Type 0 where
  pub all_symbols : length s.symbols ≡ 89
  pub all_marks : length s.doubted ≡ 89
  pub room : s.len ≤ 89
  pub below : All (λ v. v < 32) s.symbols

pub record IsHoldable (b : Book) : Type 0 where
  pub room : length b ≤ 89
  pub symbols : All (λ v. v < 32) (row b)
