-- Quotients and powers, with what is refused.
--   quotient F a b    a times b's inverse, refused if b is ZERO
--   powi F x n        x to the power n, for any whole number n
--   IsOrderOf F x r   r is x's multiplicative order, refused for ZERO
use Rattle.std.specs.Prelude.{◌≡◌, ℕ, suc, ◌^◌, ℤ, pos, negsuc, Ok, Err, Result}
use Rattle.std.proofs.Math.Decide.{ℕ_discrete}
use Rattle.algebra.specs.Field.{FieldOn, pow, HasOrder}
use Rattle.fields.specs.declared.fault.FieldFault.{FieldFault}
use Rattle.fields.specs.declared.fault.FieldFault.TheVariants.{Zero, Exponent}

module _ {A : Type 0} (F : FieldOn A) where
  abbrev pub quotient : A → A → Result A FieldFault
  quotient a b = elim (F.dec_eq b F.𝟘) [ yes _ ↦ Err Zero | no _ ↦ Ok (F.mul a (F.inv b)) ]

  -- the inverse's power, refused for ZERO
  abbrev pub inverse_power : A → ℕ → Result A FieldFault
  inverse_power x n = elim (F.dec_eq x F.𝟘) [ yes _ ↦ Err Zero | no _ ↦ Ok (pow F (F.inv x) n) ]

  -- a negative power is the inverse's; the exponent -2^63 is refused before all else
  abbrev pub powi : A → ℤ → Result A FieldFault
  powi x (pos n) = Ok (pow F x n)
  powi x (negsuc n) = elim (ℕ_discrete (suc n) (2 ^ 63)) [ yes _ ↦ Err Exponent | no _ ↦ inverse_power x (suc n) ]

  -- the answer for x's order: refused for ZERO, which has none
  abbrev pub IsOrderOf : A → Result ℕ FieldFault → Type 0
  IsOrderOf x (Ok n) = HasOrder F x n
  IsOrderOf x (Err e) = (x ≡ F.𝟘) × (e ≡ Zero)
