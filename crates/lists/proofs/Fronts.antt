-- The front of a list, filled by a loop over it.
use Rattle.std.proofs.Common.{◌≡◌, ℕ, ◌≤◌, List, ◌++◌, length, take, drop, ap, ◌∙◌, append-nil, arith}
use Rattle.std.proofs.lemmas.List.{drop_all, length-take-le}
use Rattle.algebra.specs.Poly.{tab}
use Rattle.lists.proofs.Filled.{Filled, filled_all}

-- the first n entries of old have become w, the n terms of f
pub front_filled : {A : Type 0} (f : ℕ → A) (i n : ℕ) (new old w : List A) → n ≤ length old → i ≡ n → tab n f ≡ new → Filled f i (take n old) w → w ++ drop n old ≡ new ++ drop n old
front_filled f i n new old w room e same filled =
    ap (λ t. t ++ drop n old)
    (filled_all f i n new (take n old) w e same filled ∙ ap (λ t. new ++ t) (drop_all n (take n old) (omega (arith, length-take-le n old room))) ∙ append-nil new)
