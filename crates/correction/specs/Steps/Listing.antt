-- Records listed one after another.
--   record_of  the record of a position of a row of n symbols, Y telling the changes
--   Adds       a record is added, where there is room
--   IsOnRow    a change at a position of a row of n symbols
--   IsListable   each position of a list has the change that Y tells, and there is room for their records
--   Lists      they are listed, whatever Y is
use Rattle.std.specs.List.{AllByRecursion}
use Rattle.std.specs.Prelude.{◌≡◌, ℕ, ◌+◌, ◌-◌, ◌<◌, ◌≤◌, List, [], ◌∷◌, ◌++◌, map, length, Some, Option}
use Rattle.book.specs.declared.record.Record.{Record}

-- places count from a row's front, positions from its end
abbrev pub record_of : ℕ → (ℕ → ℕ) → ℕ → Record
record_of n Y p = record { place = n - 1 - p; change = Y p }

-- the records before, the answer, and the records after
abbrev pub Adds : Record → List Record → Option (Unit {0}) → List Record → Type 0
Adds new before r after = length before < 16 → (r ≡ Some tt) × (after ≡ before ++ new ∷ [])

abbrev pub IsOnRow : ℕ → (ℕ → ℕ → Type 0) → ℕ → ℕ → Type 0
IsOnRow n Change p y = (p < n) × Change p y

pub record IsListable (Change : ℕ → ℕ → Type 0) (Y : ℕ → ℕ) (ps : List ℕ) (before : List Record) : Type 0 where
  pub changes : AllByRecursion (λ p. Change p (Y p)) ps
  pub room : length before + length ps ≤ 16

abbrev pub Lists : (ℕ → ℕ → Type 0) → ℕ → List ℕ → List Record → Option (Unit {0}) → List Record → Type 0
Lists Change n ps before r after = (Y : ℕ → ℕ) → IsListable Change Y ps before → (r ≡ Some tt) × (after ≡ before ++ map (record_of n Y) ps)
