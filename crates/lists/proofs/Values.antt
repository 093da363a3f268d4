-- Horner's sum over a list from its last entry on.
use Rattle.std.proofs.Common.{◌≡◌, List, [], ◌∷◌, map, reverse, refl, ap, ◌∙◌}
use Rattle.std.specs.List.{fold}
use Rattle.std.proofs.lemmas.List.{reverse-append}
use Rattle.std.proofs.lemmas.List.Sums.{fold_push}
use Rattle.algebra.specs.Field.{FieldOn}
use Rattle.algebra.specs.Poly.{eval}

module _ {B A : Type 0} (F : FieldOn A) (x : A) (entry : B → A) where
  abbrev pub horner_step : A → B → A
  horner_step value y = F.add (entry y) (F.mul x value)

  pub horner_sum : (p : List B) → fold horner_step F.𝟘 (reverse p) ≡ eval F (map entry p) x
  horner_sum [] = refl
  horner_sum (y ∷ p) =
      ap (fold horner_step F.𝟘) (reverse-append (y ∷ []) p) ∙ fold_push horner_step F.𝟘 (reverse p) y ∙ ap (λ v. F.add (entry y) (F.mul x v)) (horner_sum p)
