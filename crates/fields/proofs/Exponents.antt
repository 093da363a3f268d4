-- A negative exponent of 64 bits, but for the least one: its negative's bits are its size.
use Rattle.std.proofs.Common.{◌≡◌, suc, ◌+◌, ◌^◌, ◌<◌, true, ℤ, pos, negsuc, ◌-ℤ◌, nat_abs, Err, refl, ap, ◌∙◌, arith, w64, SFits, to_z, of_z, ltb-true}
use native.Mathlib.Decide.{ℕ_discrete}
use lib.Signed.{lt_z}
use Rattle.std.proofs.lemmas.Int.{to_z_pos}
use Rattle.algebra.specs.Field.{FieldOn}
use Rattle.fields.specs.declared.fault.FieldFault.TheVariants.{Exponent}
use Rattle.fields.specs.Powers.{inverse_power, powi}

module _ {A : Type 0} (F : FieldOn A) (x : A) where
  pub power_negative : (n : ℤ) → SFits w64 n → lt_z n (pos 0) ≡ true → ¬ (of_z w64 n ≡ 2 ^ 63) → inverse_power F x (nat_abs (to_z w64 (of_z w64 (pos 0 -ℤ n)))) ≡ powi F x n
  power_negative (pos n) fits below least = absurd (omega (arith, ltb-true n 0 below))
  power_negative (negsuc n) fits below least =
      let small : 0 + suc n < 2 ^ 63 = omega (arith, fits.sfits) in
      let size : nat_abs (to_z w64 (0 + suc n)) ≡ suc n = ap nat_abs (to_z_pos w64 (0 + suc n) small) ∙ omega arith in
      ap (inverse_power F x) size ∙ allowed (ℕ_discrete (suc n) (2 ^ 63)) where
        allowed : (d : Dec (suc n ≡ 2 ^ 63)) → inverse_power F x (suc n) ≡ elim d [ yes _ ↦ Err Exponent | no _ ↦ inverse_power F x (suc n) ]
        allowed (yes e) = absurd (omega arith)
        allowed (no _) = refl
