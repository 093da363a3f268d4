-- What is proposed from syndromes.
--   located_list   the error locator that decoding finds, the marked places being erased
--   TellsChange   decoding tells the change at a position
--   Tells       wherever the changes at all its positions are told, the proposal is their records
use Rattle.std.specs.List.{AllByRecursion}
use Rattle.std.specs.Prelude.{◌≡◌, ℕ, ◌+◌, ◌-◌, ◌*◌, ◌≤◌, Bool, List, ◌++◌, map, length, Some, Option}
use Rattle.algebra.specs.Decode.{error_locator, errata_locator, errata_evaluator, root_position}
use Rattle.algebra.specs.Field.{FieldOn, Enumeration, HasOrder, pow}
use Rattle.algebra.specs.Poly.{coeff}
use Rattle.algebra.specs.Rows.{positions}
use Rattle.algebra.specs.Series.{deriv}
use Rattle.lists.specs.Roots.{roots}
use Rattle.correction.specs.Steps.Forney.{HasValue}
use Rattle.correction.specs.Steps.Listing.{IsOnRow, record_of}
use Rattle.correction.specs.declared.pattern.Pattern.{Pattern}

module _ {E S : Type 0} (F : FieldOn E) (up : S → E) (N : Enumeration S) (s : List E) (marks : List Bool) (a : E) (first : ℕ) where
  abbrev pub located_list : List E
  located_list = error_locator F (pow F a) (positions marks) (coeff F s) (length s)

  abbrev pub TellsChange : ℕ → ℕ → Type 0
  TellsChange p y = HasValue F up N (errata_evaluator F (pow F a) (positions marks) (coeff F s) (length s)) (deriv F (errata_locator F (pow F a) (positions marks) (coeff F s) (length s))) a first p y

  -- the positions of the errors, in the order of the search for roots, n being the order of a
  abbrev pub found_positions : ℕ → List ℕ
  found_positions n = map (root_position n) (roots F located_list a n)

  -- Y gives each change, and there are no more than the syndromes can tell
  pub record IsComplete (n : ℕ) (Y : ℕ → ℕ) : Type 0 where
    pub order : HasOrder F a n
    pub doubted : AllByRecursion (λ p. TellsChange p (Y p)) (positions marks)
    pub errors : AllByRecursion (λ p. IsOnRow (length marks) TellsChange p (Y p)) (found_positions n)
    pub few : length (positions marks) + length (found_positions n) ≤ 16
    pub within : 2 * (length located_list - 1) + length (positions marks) ≤ length s

  pub record Tells (r : Option Pattern) : Type 0 where
    pub records : (n : ℕ) (Y : ℕ → ℕ) → IsComplete n Y
        → r ≡ Some (map (record_of (length marks) Y) (positions marks) ++ map (record_of (length marks) Y) (found_positions n))
