-- A list with ZEROs at the top, changed past them.
use Rattle.std.proofs.Common.{◌≡◌, ℕ, zero, suc, ◌+◌, ◌≤◌, max, List, [], ◌∷◌, ◌++◌, length, replicate, refl, ap, ap₂, arith}
use Rattle.algebra.specs.Field.{FieldOn}
use Rattle.algebra.specs.Poly.{poly_add, poly_scale}
use Rattle.algebra.specs.Series.{poly_shift}
use Rattle.algebra.specs.Register.{updated_list}
use Rattle.algebra.proofs.Updates.{length_change}

module _ {A : Type 0} (F : FieldOn A) where
  open F use {𝟘, add as ◌⊕◌, neg as ⊖◌, zero_add}

  infixl 60 ◌⊕◌
  infix 80 ⊖◌
  poly_add_grown : (p q : List A) (z : ℕ) → length p + z ≤ length q → poly_add F (p ++ replicate z 𝟘) q ≡ poly_add F p q
  poly_add_grown [] q zero h = refl
  poly_add_grown [] [] (suc z) h = absurd (omega arith)
  poly_add_grown [] (b ∷ q) (suc z) h = ap₂ ◌∷◌ (zero_add b) (poly_add_grown [] q z (omega arith))
  poly_add_grown (a ∷ p) [] z h = absurd (omega arith)
  poly_add_grown (a ∷ p) (b ∷ q) z h = ap (λ t. (a ⊕ b) ∷ t) (poly_add_grown p q z (omega arith))

  pub change_grown : (p : List A) (k : A) (x : ℕ) (o : List A) (z : ℕ) → length p + z ≤ length o + x → updated_list F (p ++ replicate z 𝟘) k x o ≡ updated_list F p k x o
  change_grown p k x o z h =
      let l : length (updated_list F [] k x o) ≡ max 0 (length o + x) = length_change F [] k x o in
      poly_add_grown p (poly_scale F (⊖ k) (poly_shift F x o)) z (omega arith)
