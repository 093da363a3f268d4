-- What is promised of a proposal.
use Rattle.std.specs.Prelude.{◌≡◌, ℕ, ◌+◌, ◌*◌, ◌≤◌, List, length, Some, Option}
use Rattle.book.specs.Book.{Book}
use Rattle.algebra.specs.NumericCode.{NumericCode}
use Rattle.book.specs.Codes.{IsNear}
use Rattle.book.specs.Mending.{changes}
use Rattle.correction.specs.declared.pattern.Pattern.{Pattern}

-- wherever a row is near, and within the limit, a working list of w entries being long enough: the proposal is its changes
abbrev pub Proposes : NumericCode → Book → ℕ → Option Pattern → Type 0
Proposes C b w r = (n : List ℕ) → length b ≤ C.limit → 12 * (C.bound + 2) ≤ w → IsNear C b n → r ≡ Some (changes C b n)
