-- What is asked of the rows of a code.
--   IsSound   the code finds a row sound
--   IsNear   a sound row within the bound of a book
--   IsSeal   check symbols that make a row sound
--   IsLawful   what holds of every code that keeps the laws of codes
use Rattle.std.specs.List.{AllByRecursion}
use Rattle.std.specs.Prelude.{◌≡◌, ℕ, ◌<◌, ◌≤◌, true, List, ◌++◌, length}
use Rattle.std.proofs.Math.Decide.{ℕ_discrete}
use Rattle.algebra.specs.NumericCode.{NumericCode}
use Rattle.algebra.specs.Rows.{IsNearBy, hamming_distance}
use Rattle.book.specs.Book.{Book}

abbrev pub IsSound : NumericCode → List ℕ → Type 0
IsSound C n = C.is_sound n ≡ true

-- n is sound, as long as the book, and twice the undoubted places where they differ, and the doubted ones, are within the bound
abbrev pub IsNear : NumericCode → Book → List ℕ → Type 0
IsNear C b n = IsNearBy ℕ_discrete (IsSound C) C.bound b n

-- cs makes the row sound
pub record IsSeal (C : NumericCode) (row cs : List ℕ) : Type 0 where
  pub as_many : length cs ≡ C.checks
  pub sound : IsSound C (row ++ cs)

pub record IsLawful (C : NumericCode) : Type 0 where
  pub alphabet : C.size ≡ 32
  pub bound_small : C.bound ≤ 16
  -- two sound rows of one length within the limit that differ in at most bound places are one
  pub apart : (v w : List ℕ) → IsSound C v → IsSound C w → length v ≡ length w → length v ≤ C.limit → hamming_distance ℕ_discrete v w ≤ C.bound → v ≡ w
  -- a row can be sealed in one way only
  pub one_seal : (row cs ds : List ℕ) → IsSeal C row cs → IsSeal C row ds → cs ≡ ds
  pub symbols : (n : List ℕ) → IsSound C n → AllByRecursion (λ v. v < C.size) n
  pub sub_below : (x y : ℕ) → C.sub x y < C.size
  -- a symbol less its change is the symbol that was meant
  pub sub_back : (x y : ℕ) → x < C.size → y < C.size → C.sub x (C.sub x y) ≡ y
  pub sub_itself : (x : ℕ) → C.sub x x ≡ C.zero
