-- What is known of an element whose inverse, or whose place in the base, was answered or refused.
use Rattle.std.proofs.Common.{◌≡◌, ℕ, Bool, true, false, Decides, Option, Ok, Err, sym, refl, ap, ◌∙◌, arith}
use mathlib.Core.Path.{subst⁻¹}
use Rattle.std.specs.Bool.{then_some}
use Rattle.std.proofs.lemmas.Bool.{false≢true}
use Rattle.algebra.specs.Field.{FieldOn, Drops}
use Rattle.algebra.proofs.Laws.{zero_mul, inv_unique}
use Rattle.fields.specs.Elements.{inverse}
use Rattle.fields.specs.declared.fault.FieldFault.{FieldFault}
use Rattle.fields.specs.declared.fault.FieldFault.TheVariants.{Zero}
use Rattle.fields.proofs.Refusals.{inverse_of_zero, inverse_of_other}

module _ {A : Type 0} (F : FieldOn A) where
  -- an answer is the other factor of ONE
  pub inverse_ok : (x k : A) → inverse F x ≡ Ok k → F.mul x k ≡ F.𝟙
  inverse_ok x k e = by (F.dec_eq x F.𝟘)
    where
      by : Dec (x ≡ F.𝟘) → F.mul x k ≡ F.𝟙
      by (yes z) = let p = inverse_of_zero F x z in let n : ◌≡◌ {A = ℕ} 0 1 = cc in absurd (omega arith)
      by (no z) = let p = inverse_of_other F x z in let same : k ≡ F.inv x = cc in ap (F.mul x) same ∙ F.mul_inv x z

  pub ok_inverse : (x k : A) → F.mul x k ≡ F.𝟙 → inverse F x ≡ Ok k
  ok_inverse x k e =
      inverse_of_other F x (λ z. F.one_ne_zero (sym e ∙ ap (λ y. F.mul y k) z ∙ zero_mul F k)) ∙ ap Ok (sym (inv_unique F x k e))

-- what is refused for x is refused for y, where y is ZERO if x is
pub inverse_err : {A B : Type 0} (F : FieldOn A) (G : FieldOn B) (x : A) (y : B) (e : FieldFault) → (x ≡ F.𝟘 → y ≡ G.𝟘) → inverse F x ≡ Err e → inverse G y ≡ Err e
inverse_err F G x y e h f = by (F.dec_eq x F.𝟘)
  where
    by : Dec (x ≡ F.𝟘) → inverse G y ≡ Err e
    by (yes z) = let p = inverse_of_zero F x z in let same : Zero ≡ e = cc in inverse_of_zero G y (h z) ∙ ap Err same
    by (no z) = let p = inverse_of_other F x z in let n : ◌≡◌ {A = ℕ} 0 1 = cc in absurd (omega arith)

-- an element is dropped to its own part y where a test finds that it is what y lifts to
pub dropped : {B A : Type 0} (up : B → A) (x lifted : A) (y : B) (r : Option B) (b : Bool) → Decides b (x ≡ lifted) → lifted ≡ up y → ((z : B) → up z ≡ x → z ≡ y) → r ≡ then_some b y → Drops up x r
dropped up x lifted y r b d is own e = subst⁻¹ (Drops up x) e (by b d)
  where
    by : (b : Bool) → Decides b (x ≡ lifted) → Drops up x (then_some b y)
    by true d = sym (d.0 refl ∙ is)
    by false d = λ z f. false≢true (d.1 (sym f ∙ ap up (own z f) ∙ sym is))
