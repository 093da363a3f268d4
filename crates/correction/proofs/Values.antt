-- Forney's value, step by step, from what each step answers.
use Rattle.std.proofs.Common.{◌≡◌, ℕ, ◌<◌, List, [], ◌∷◌, length, Some, Ok, Err, Result, sym, refl, ap, ◌∙◌, arith}
use Rattle.std.proofs.lemmas.Option.{none-some}
use Rattle.std.specs.Result.{result_ok}
use Rattle.algebra.specs.Field.{FieldOn, pow}
use Rattle.algebra.specs.Poly.{eval}
use Rattle.algebra.proofs.Laws.{inv_unique, mul_left_comm, mul_ne_zero, mul_one}
use Rattle.algebra.proofs.Orders.{pow_ne_zero}
use Rattle.fields.specs.Elements.{inverse}
use Rattle.fields.specs.Powers.{quotient}
use Rattle.fields.specs.declared.fault.FieldFault.{FieldFault}
use Rattle.fields.specs.declared.fault.FieldFault.TheVariants.{Zero}
use Rattle.fields.proofs.Refusals.{inverse_of_other}
use Rattle.lists.specs.Faults.{unless_empty}
use Rattle.lists.specs.declared.fault.ListFault.{ListFault}
use Rattle.lists.proofs.Filled.{asked_some}
use Rattle.correction.specs.Steps.Forney.{forney}

-- a list that has entries is not refused
pub answer_is : {X : Type 0} {given : ℕ} {x y : X} {r : Result X ListFault} → 0 < given → r ≡ unless_empty given x → r ≡ Ok y → y ≡ x
answer_is {given = given} {x = x} some answer is = let allowed = asked_some given x some in cc

module _ {A : Type 0} (F : FieldOn A) where
  open F use {𝟘, 𝟙, mul as ◌⊗◌, neg as ⊖◌, inv, mul_inv, mul_assoc}

  infixl 70 ◌⊗◌
  infix 80 ⊖◌
  -- a list has a value, unless it is empty
  pub evaluated : (p : List A) (x y : A) → result_ok (unless_empty (length p) (eval F p x)) ≡ Some y → y ≡ eval F p x
  evaluated [] x y e = absurd (none-some y e)
  evaluated (a ∷ p) x y e = let allowed = asked_some (length (a ∷ p)) (eval F (a ∷ p) x) (omega arith) in cc

  product_inverse : (x y : A) → ¬ (x ≡ 𝟘) → ¬ (y ≡ 𝟘) → inv x ⊗ inv y ≡ inv (x ⊗ y)
  product_inverse x y hx hy = inv_unique F (x ⊗ y) (inv x ⊗ inv y) (
      mul_assoc x y (inv x ⊗ inv y)
      ∙ ap (λ t. x ⊗ t) (mul_left_comm F y (inv x) (inv y) ∙ ap (λ t. inv x ⊗ t) (mul_inv y hy) ∙ mul_one F (inv x))
      ∙ mul_inv x hx)

  divided_other : (x y : A) → ¬ (y ≡ 𝟘) → quotient F x y ≡ Ok (x ⊗ inv y)
  divided_other x y h = by (F.dec_eq y 𝟘)
    where
      by : (d : Dec (y ≡ 𝟘)) → ◌≡◌ {A = Result A FieldFault} (elim d [ yes _ ↦ Err Zero | no _ ↦ Ok (x ⊗ inv y) ]) (Ok (x ⊗ inv y))
      by (yes e) = absurd (h e)
      by (no _) = refl

  divided_twice : (x y z : A) → ¬ (y ≡ 𝟘) → ¬ (z ≡ 𝟘) → quotient F x (y ⊗ z) ≡ Ok (x ⊗ inv y ⊗ inv z)
  divided_twice x y z hy hz =
      divided_other x (y ⊗ z) (mul_ne_zero F y z hy hz)
      ∙ ap Ok (ap (λ t. x ⊗ t) (sym (product_inverse y z hy hz)) ∙ sym (mul_assoc x (inv y) (inv z)))

  quotient_is : (W D : List A) (x : A) (first : ℕ) → ¬ (x ≡ 𝟘) → ¬ (eval F D (inv x) ≡ 𝟘)
      → quotient F (⊖ (x ⊗ eval F W (inv x))) (eval F D (inv x) ⊗ pow F x first) ≡ Ok (forney F W D x first)
  quotient_is W D x first h sloped = divided_twice (⊖ (x ⊗ eval F W (inv x))) (eval F D (inv x)) (pow F x first) sloped (pow_ne_zero F x h first)

  -- from what each step answers
  pub forney_is : (W D : List A) (x back value slope : A) (first : ℕ) → ¬ (x ≡ 𝟘) → 0 < length W
      → inverse F x ≡ Ok back → unless_empty (length W) (eval F W back) ≡ Ok value → result_ok (unless_empty (length D) (eval F D back)) ≡ Some slope
      → ¬ (eval F D (inv x) ≡ 𝟘) → result_ok (quotient F (⊖ (x ⊗ value)) (slope ⊗ pow F x first)) ≡ Some (forney F W D x first)
  forney_is W D x back value slope first h some is-back is-value is-slope sloped =
      let inverse-is = inverse_of_other F x h in
      let value-is = asked_some (length W) (eval F W back) some in
      let slope-is = evaluated D back slope is-slope in
      let change-is = quotient_is W D x first h sloped in
      cc
