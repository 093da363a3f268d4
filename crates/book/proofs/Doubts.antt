-- How many flags are set, counted by the library's word.
use Rattle.std.proofs.Common.{◌≡◌, ◌+◌, Bool, true, false, cond, count_by, List, ◌∷◌, sym, refl}
use Rattle.std.proofs.Math.Numerals.{one-add}
use Rattle.std.proofs.lemmas.List.Recursion.{is_count_by}
use Rattle.algebra.specs.Rows.{count_true}

pub counted : (fs : List Bool) → count_by (λ f. f) fs ≡ count_true fs
counted fs = sym (is_count_by count_true (λ f. f) refl by fs)
  where
    by : (f : Bool) (gs : List Bool) → count_true (f ∷ gs) ≡ cond f (1 + count_true gs) (count_true gs)
    by true gs = sym (one-add (count_true gs))
    by false gs = refl
