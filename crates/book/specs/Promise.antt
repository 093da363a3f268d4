-- What is promised of solve and settle by a code.
use Rattle.std.specs.List.{AllByRecursion}
use Rattle.std.specs.Prelude.{◌≡◌, ℕ, ◌+◌, ◌*◌, ◌<◌, ◌≤◌, ◌⊎◌, List, map, length}
use Rattle.book.specs.Book.{Book, row, undoubted_place}
use Rattle.book.specs.Calls.{BookAnswer, Follows, listing_of, doubt, solve, settle, done, refused, listed}
use Rattle.algebra.specs.NumericCode.{NumericCode}
use Rattle.book.specs.Codes.{IsNear}
use Rattle.book.specs.Mending.{changes, IsOnlyPattern}
use Rattle.book.specs.declared.call_fault.CallFault.{CallFault}
use Rattle.book.specs.declared.record.Record.{Record}

abbrev pub IsRefusal : BookAnswer → Type 0
IsRefusal a = (fault : CallFault) × (a ≡ refused fault)

-- the row is neither too short nor too long, and the lent lists are long enough
pub record IsWorkable (C : NumericCode) (r w : ℕ) (b : Book) : Type 0 where
  pub long : C.checks < length b
  pub short : length b ≤ C.limit
  pub records : C.bound ≤ r
  pub working : 12 * (C.bound + 2) ≤ w

-- a solve that gives the row n, and a settle that does
abbrev pub SolveGives : NumericCode → Book → List ℕ → BookAnswer → Book → Type 0
SolveGives C b n a next = (a ≡ listing_of C b n) × (next ≡ b)

abbrev pub SettleGives : NumericCode → Book → List ℕ → BookAnswer → Book → Type 0
SettleGives C b n a next = (a ≡ listing_of C b n) × (next ≡ map undoubted_place n)

-- every answer gives n
pub record Gives (C : NumericCode) (r w : ℕ) (b : Book) (n : List ℕ) : Type 0 where
  pub solved : (a : BookAnswer) (next : Book) → Follows b (solve C r w) a next → SolveGives C b n a next
  pub settled : (a : BookAnswer) (next : Book) → Follows b (settle C r w) a next → SettleGives C b n a next

-- every answer gives n or is a refusal
pub record GivesOnly (C : NumericCode) (r w : ℕ) (b : Book) (n : List ℕ) : Type 0 where
  pub solved : (a : BookAnswer) (next : Book) → Follows b (solve C r w) a next → IsRefusal a ⊎ SolveGives C b n a next
  pub settled : (a : BookAnswer) (next : Book) → Follows b (settle C r w) a next → IsRefusal a ⊎ SettleGives C b n a next

pub record KeepsPromise (C : NumericCode) : Type 0 where
  -- (a) a sound row that is near is given: whichever undoubted places were altered, whatever the doubted ones hold
  pub restores : (b : Book) (n : List ℕ) (r w : ℕ) → IsWorkable C r w b → IsNear C b n → Gives C r w b n
  -- (b) where no row is near, every answer is a refusal
  pub refuses : (b : Book) → ((n : List ℕ) → ¬ IsNear C b n) → (r w : ℕ) (a : BookAnswer) (next : Book)
      → Follows b (solve C r w) a next ⊎ Follows b (settle C r w) a next → IsRefusal a × (next ≡ b)
  -- (c) a solve that lists gives a near row, and with one more place doubted only that row is given
  pub one_more : (b next : Book) (r w : ℕ) (cs : List Record) (i j : ℕ) → Follows b (solve C r w) (listed cs i j) next
      → (n : List ℕ) × IsNear C b n × SolveGives C b n (listed cs i j) next
      × ((p : ℕ) (doubted : Book) → Follows next (doubt p) done doubted → (r' w' : ℕ) → GivesOnly C r' w' doubted n)
  -- what is listed of a near row within the limit is the one pattern that fits, and makes the row that row
  pub one_pattern : (b : Book) (n : List ℕ) → AllByRecursion (λ v. v < C.size) (row b) → length b ≤ C.limit → IsNear C b n
      → IsOnlyPattern C b n (changes C b n)
