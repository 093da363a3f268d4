-- t generates the elements but ZERO, and an element plus itself is ZERO.
use Rattle.std.specs.Prelude.{◌≡◌, ℕ, zero, suc, ◌<◌, not, T, ◌==◌, refl}
use Rattle.std.proofs.Common.{ap, sym, subst, ◌∙◌, arith, lit<}
use Rattle.std.specs.Int.Bits.{xor_self}
use Rattle.algebra.specs.Field.{IsCyclic, HasCharacteristicTwo, HasOrder, pow}
use Rattle.fields.specs.Binary.{binary_product, binary_power}
use Rattle.algebra.proofs.Tests.{every_at}
use Rattle.fields.specs.Gf32.{gf32, gf32_numbers, gf32_generator, fe_path}
use Rattle.fields.specs.declared.gf32.Fe32.{Fe32}

-- powers, on numbers
pub pow_value : (x : Fe32) (n : ℕ) → (pow gf32 x n).value ≡ binary_power x.value n
unfolding gf32
pow_value x zero = refl
pow_value x (suc n) = ap (binary_product x.value) (pow_value x n)

power_least : (k : ℕ) → 0 < k → k < 31 → ¬ (binary_power 2 k ≡ 1)
unfolding binary_product
power_least zero p h e = omega arith
power_least (suc k) p h e = subst (λ (n : ℕ). T (not (n == 1))) e (every_at 30 (λ x. not (binary_power 2 (suc x) == 1)) tt k (omega arith))

power_returns : binary_power 2 31 ≡ 1
unfolding binary_product
power_returns = refl

pub t_has_order_31 : HasOrder gf32 gf32_generator 31
unfolding gf32
t_has_order_31 = record {
  positive = lit< tt;
  returns = fe_path _ _ (pow_value gf32_generator 31 ∙ power_returns);
  least = λ k p h e. power_least k p h (sym (pow_value gf32_generator k) ∙ ap (λ (x : Fe32). x.value) e);
}

pub gf32_cyclic : IsCyclic gf32 gf32_numbers gf32_generator 31
unfolding gf32_numbers
gf32_cyclic = record { order_is = refl; generates = t_has_order_31 }

pub gf32_characteristic_two : HasCharacteristicTwo gf32
unfolding gf32
gf32_characteristic_two x = fe_path _ _ (xor_self x.value)
