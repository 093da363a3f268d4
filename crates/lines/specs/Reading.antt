-- How a line is read.
--   IsOver      the reader has nothing left, or no more bytes may be read
--   ReadsLine   the bytes that were read are a line and its newline, or else a line after which it is over
--   TakesAhead  the bytes that were read are put to a line, and a newline after them is read too, if it came
use Rattle.std.specs.Prelude.{◌≡◌, ◌≢◌, ◌⊎◌, ℕ, Bool, true, false, List, [], ◌∷◌, ◌++◌, All, Option}
use Rattle.std.specs.Io.KnownBytes.{IsAtEnd}

abbrev pub IsOver : Option (List ℕ) → ℕ → Type 0
IsOver remaining left = IsAtEnd remaining ⊎ (left ≡ 0)

abbrev pub ReadsLine : Option (List ℕ) → ℕ → Bool → List ℕ → List ℕ → Type 0
ReadsLine remaining left true line bytes = All (λ byte. byte ≢ 10) line × (bytes ≡ line ++ 10 ∷ [])
ReadsLine remaining left false line bytes =
    All (λ byte. byte ≢ 10) line × (bytes ≡ line) × IsOver remaining left

abbrev pub TakesAhead : List ℕ → List ℕ → Bool → List ℕ → Type 0
TakesAhead old new true bytes =
    (more : List ℕ) × All (λ byte. byte ≢ 10) more × (bytes ≡ more ++ 10 ∷ []) × (new ≡ old ++ more)
TakesAhead old new false bytes = All (λ byte. byte ≢ 10) bytes × (new ≡ old ++ bytes)
