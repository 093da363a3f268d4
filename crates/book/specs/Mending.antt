-- The changes that mend a row, and which lists of records are a pattern that fits.
--   changes     the records that make a book's row another, in the order in which they are listed
--   nonzero_count   how many of them change something
--   subtracted  a row after changes were taken off
--   Fits        a list of records is a pattern that fits within the bound, whoever proposed it
--   IsOnlyPattern   it fits and leads to a row, and each that fits has the same records
use Rattle.std.specs.List.{AllByRecursion}
use Rattle.std.specs.Prelude.{◌≡◌, ℕ, ◌+◌, ◌-◌, ◌*◌, ◌<◌, ◌≤◌, Bool, true, false, cond, not, List, [], ◌∷◌, ◌++◌, count_by, map, length, take, drop, ◌==◌, slice_index, slice_set, IsPermutation}
use Rattle.std.proofs.Math.Decide.{ℕ_discrete}
use Rattle.algebra.specs.Rows.{is_wrong}
use Rattle.algebra.specs.Series.{Mem}
use Rattle.book.specs.Book.{Place, Book, row, doubts, doubted_at}
use Rattle.algebra.specs.NumericCode.{NumericCode}
use Rattle.book.specs.Codes.{IsSound}
use Rattle.book.specs.declared.record.Record.{Record}

-- is a place doubted? is it undoubted, with another symbol than v?
abbrev pub is_doubtful : Place → ℕ → Bool
is_doubtful a v = a.doubted

abbrev pub is_wrong_number : Place → ℕ → Bool
is_wrong_number a v = is_wrong ℕ_discrete a v

-- the changes to n at the places that are wanted, ascending, the first being place i
abbrev pub changes_where : (Place → ℕ → Bool) → NumericCode → ℕ → Book → List ℕ → List Record
changes_where want C i [] n = []
changes_where want C i (a ∷ b) [] = []
changes_where want C i (a ∷ b) (v ∷ n) =
    cond (want a v) (record { place = i; change = C.sub a.symbol v } ∷ changes_where want C (i + 1) b n) (changes_where want C (i + 1) b n)

-- doubted places ascending; then the last place, if it is wrong; then the other wrong places ascending
abbrev pub changes : NumericCode → Book → List ℕ → List Record
changes C b n =
    let last = length b - 1 in
    changes_where is_doubtful C 0 b n
    ++ (changes_where is_wrong_number C last (drop last b) (drop last n)
    ++ changes_where is_wrong_number C 0 (take last b) (take last n))

abbrev pub nonzero_count : NumericCode → List Record → ℕ
nonzero_count C cs = count_by (λ c. not (c.change == C.zero)) cs

abbrev pub row_less : NumericCode → List Record → List ℕ → List ℕ
row_less C [] vs = vs
row_less C (c ∷ cs) vs = row_less C cs (slice_set vs c.place (C.sub (slice_index vs c.place) c.change))

-- no number stands twice in a list
abbrev pub HasNoRepeat : List ℕ → Type 0
HasNoRepeat [] = Unit {0}
HasNoRepeat (p ∷ ps) = AllByRecursion (λ q. ¬ (p ≡ q)) ps × HasNoRepeat ps

abbrev pub record_places : List Record → List ℕ
record_places cs = map (λ c. c.place) cs

-- how many changes are at undoubted places
abbrev pub undoubted_count : Book → List Record → ℕ
undoubted_count b cs = count_by (λ c. not (doubted_at c.place b)) cs

pub record Fits (C : NumericCode) (b : Book) (cs : List Record) : Type 0 where
  pub distinct : HasNoRepeat (record_places cs)
  pub on_slip : AllByRecursion (λ p. p < length b) (record_places cs)
  pub symbols : AllByRecursion (λ c. c.change < C.size) cs
  -- each doubted place has its change, and each change at another place changes something
  pub doubted : (p : ℕ) → doubted_at p b ≡ true → Mem p (record_places cs)
  pub changed : AllByRecursion (λ c. doubted_at c.place b ≡ false → ¬ (c.change ≡ C.zero)) cs
  pub within : 2 * undoubted_count b cs + doubts b ≤ C.bound
  pub sound : IsSound C (row_less C cs (row b))

-- cs fits and makes the book's row n, and every list of records that fits is cs in some order
pub record IsOnlyPattern (C : NumericCode) (b : Book) (n : List ℕ) (cs : List Record) : Type 0 where
  pub fits : Fits C b cs
  pub subtracted : row_less C cs (row b) ≡ n
  pub only : (ds : List Record) → Fits C b ds → IsPermutation ds cs
