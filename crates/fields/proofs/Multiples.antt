-- Multiples where twice an element is ZERO: the parity decides.
use Rattle.std.proofs.Common.{◌≡◌, ℕ, zero, suc, ◌%◌, ◌<◌, ℤ, pos, negsuc, neg_ℤ, nat_abs, sym, refl, ap, ◌∙◌, arith, w64, of_z}
use lib.Signed.{rem_z}
use Rattle.algebra.specs.Field.{FieldOn, HasCharacteristicTwo, multiple, int_multiple}
use Rattle.algebra.proofs.Laws.{add_zero, neg_zero}

-- the remainder's bits, as the code tests them, are 0 exactly for an even number
pub even_bits : (n : ℤ) → of_z w64 (rem_z n (pos 2)) ≡ 0 → nat_abs n % 2 ≡ 0
even_bits (pos n) e = e
even_bits (negsuc n) e = from (suc n % 2) e (omega arith) where
  from : (m : ℕ) → of_z w64 (neg_ℤ (pos m)) ≡ 0 → m < 2 → m ≡ 0
  from zero e h = refl
  from (suc m) e h = omega arith

pub odd_bits : (n : ℤ) → ¬ (of_z w64 (rem_z n (pos 2)) ≡ 0) → nat_abs n % 2 ≡ 1
odd_bits (pos n) e = omega arith
odd_bits (negsuc n) e = from (suc n % 2) e (omega arith) where
  from : (m : ℕ) → ¬ (of_z w64 (neg_ℤ (pos m)) ≡ 0) → m < 2 → m ≡ 1
  from zero e h = absurd (e refl)
  from (suc m) e h = omega arith

module _ {A : Type 0} (F : FieldOn A) (twice : HasCharacteristicTwo F) (x : A) where
  multiple_parity : (n : ℕ) → multiple F x n ≡ multiple F x (n % 2)
  multiple_parity zero = refl
  multiple_parity (suc zero) = refl
  multiple_parity (suc (suc n)) =
      let same : n % 2 ≡ suc (suc n) % 2 = omega arith in
      sym (F.add_assoc x x (multiple F x n)) ∙ ap (λ y. F.add y (multiple F x n)) (twice x) ∙ F.zero_add (multiple F x n)
      ∙ multiple_parity n ∙ ap (multiple F x) same

  neg_same : F.neg x ≡ x
  neg_same =
      sym (F.zero_add (F.neg x)) ∙ ap (λ y. F.add y (F.neg x)) (sym (twice x)) ∙ F.add_assoc x x (F.neg x)
      ∙ ap (F.add x) (F.add_neg x) ∙ add_zero F x

  multiple_even : (n : ℕ) → n % 2 ≡ 0 → multiple F x n ≡ F.𝟘
  multiple_even n h = multiple_parity n ∙ ap (multiple F x) h

  multiple_odd : (n : ℕ) → n % 2 ≡ 1 → multiple F x n ≡ x
  multiple_odd n h = multiple_parity n ∙ ap (multiple F x) h ∙ add_zero F x

  pub multipleℤ_even : (n : ℤ) → nat_abs n % 2 ≡ 0 → int_multiple F x n ≡ F.𝟘
  multipleℤ_even (pos n) h = multiple_even n h
  multipleℤ_even (negsuc n) h = ap F.neg (multiple_even (suc n) h) ∙ neg_zero F

  pub multipleℤ_odd : (n : ℤ) → nat_abs n % 2 ≡ 1 → int_multiple F x n ≡ x
  multipleℤ_odd (pos n) h = multiple_odd n h
  multipleℤ_odd (negsuc n) h = ap F.neg (multiple_odd (suc n) h) ∙ neg_same
