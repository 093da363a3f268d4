-- The front of a list, up to a place that a search finds.
use Rattle.std.proofs.Common.{◌≡◌, ℕ, ◌+◌, Bool, true, false, cond, not, List, [], ◌∷◌, length, take, unwrap_or, refl, one-add, arith}
use Rattle.std.specs.List.{position, position_or_len}
use Rattle.std.proofs.lemmas.Bool.Decides.{nat_tests}
use Rattle.std.proofs.lemmas.List.Sums.{prefix_len-le-length}

-- the place that a search found, and the end where it found none
pub place_or_end : {X : Type 0} (p : X → Bool) (xs : List X) → unwrap_or (position p xs) (length xs) ≡ position_or_len p xs
place_or_end p xs =
    let within = prefix_len-le-length (λ x. not (p x)) xs in
    grind (arith, nat_tests)

pub one_before : (p : Bool) (x n : ℕ) (xs : List ℕ) → take (cond (not p) (1 + n) 0) (x ∷ xs) ≡ cond p [] (x ∷ take n xs)
one_before true x n xs = refl
one_before false x n xs = simp one-add
