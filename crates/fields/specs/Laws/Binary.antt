-- The laws of the product below 32, each by a test of all cases, which is computed when the proof is checked.
use Rattle.std.specs.Prelude.{◌≡◌, ℕ, zero, suc, ◌<◌, bit_xor, nat_eq, nat_lt, refl}
use Rattle.std.proofs.Common.{arith, eqb→eq, ltb→lt}
use Rattle.fields.specs.Binary.{binary_product, binary_power}
use Rattle.algebra.proofs.Tests.{every_at, at₂, at₃}

pub product_lt : (a b : ℕ) → a < 32 → b < 32 → binary_product a b < 32
unfolding binary_product
product_lt a b ha hb = ltb→lt (binary_product a b) 32 (at₂ 32 (λ x y. nat_lt (binary_product x y) 32) tt a b ha hb)

pub product_comm : (a b : ℕ) → a < 32 → b < 32 → binary_product a b ≡ binary_product b a
unfolding binary_product
product_comm a b ha hb = eqb→eq _ _ (at₂ 32 (λ x y. nat_eq (binary_product x y) (binary_product y x)) tt a b ha hb)

pub product_assoc : (a b c : ℕ) → a < 32 → b < 32 → c < 32 → binary_product (binary_product a b) c ≡ binary_product a (binary_product b c)
unfolding binary_product
product_assoc a b c ha hb hc = eqb→eq _ _ (at₃ 32 (λ x y z. nat_eq (binary_product (binary_product x y) z) (binary_product x (binary_product y z))) tt a b c ha hb hc)

pub product_add : (a b c : ℕ) → a < 32 → b < 32 → c < 32 → binary_product a (bit_xor b c) ≡ bit_xor (binary_product a b) (binary_product a c)
unfolding binary_product
product_add a b c ha hb hc = eqb→eq _ _ (at₃ 32 (λ x y z. nat_eq (binary_product x (bit_xor y z)) (bit_xor (binary_product x y) (binary_product x z))) tt a b c ha hb hc)

pub one_product : (a : ℕ) → a < 32 → binary_product 1 a ≡ a
unfolding binary_product
one_product a h = eqb→eq _ _ (every_at 32 (λ x. nat_eq (binary_product 1 x) x) tt a h)

pub power_30_lt : (a : ℕ) → a < 32 → binary_power a 30 < 32
unfolding binary_product
power_30_lt a h = ltb→lt _ 32 (every_at 32 (λ x. nat_lt (binary_power x 30) 32) tt a h)

pub power_31 : (a : ℕ) → a < 32 → ¬ (a ≡ 0) → binary_power a 31 ≡ 1
unfolding binary_product
power_31 zero h z = absurd (z refl)
power_31 (suc a) h z = eqb→eq _ _ (every_at 31 (λ x. nat_eq (binary_power (suc x) 31) 1) tt a (omega arith))
