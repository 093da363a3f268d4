-- The sheet code is lawful.
use Rattle.std.proofs.Common.{◌≡◌, ℕ, ◌+◌, ◌-◌, ◌<◌, ◌≤◌, [], ◌∷◌, map, eqb, eqb→eq, refl, sym, ap, ◌∙◌, lit<, lit≤, arith}
use Rattle.algebra.specs.Field.{HasOrder, pow}
use Rattle.algebra.specs.Poly.{eval}
use Rattle.algebra.specs.Code.{IsLawfulCode, generator_poly}
use Rattle.algebra.proofs.Carried.{carried}
use Rattle.algebra.proofs.Computed.{order_is}
use Rattle.algebra.proofs.Orders.{order_ne_zero}
use Rattle.algebra.proofs.Squaring.{squaring}
use Rattle.algebra.proofs.Quadratic.{quadratic}
use Rattle.fields.specs.Binary.{binary_product}
use Rattle.algebra.proofs.Tests.{every_at}
use Rattle.fields.specs.Gf32.{gf32, gf32_numbers}
use Rattle.fields.specs.Gf1024.{gf1024, gf1024_numbers, lift1024}
use Rattle.checksum.specs.Bech32.{bech32}

-- 1 + 6ζ generates the elements but ZERO
root_has_order_1023 : HasOrder gf1024 bech32.root 1023
unfolding bech32 squaring gf1024 gf1024_numbers carried quadratic gf32 gf32_numbers binary_product
root_has_order_1023 = order_is gf1024 gf1024_numbers bech32.root 1022 (1 ∷ 3 ∷ 11 ∷ 31 ∷ 33 ∷ 93 ∷ 341 ∷ []) refl refl (tt, (tt, (tt, (tt, (tt, (tt, (tt, tt)))))))

-- the number of the generator polynomial's value at a power of the root
at_power : ℕ → ℕ
at_power j = gf1024_numbers.number (eval gf1024 (map lift1024 (generator_poly gf32 bech32)) (pow gf1024 bech32.root j))

roots_test : (j : ℕ) → j < 3 → at_power (24 + j) ≡ 0
unfolding bech32 gf1024 gf1024_numbers carried quadratic gf32 gf32_numbers binary_product at_power
roots_test j h = eqb→eq (at_power (24 + j)) 0 (every_at 3 (λ i. eqb (at_power (24 + i)) 0) tt j h)

zero_number : gf1024_numbers.number gf1024.𝟘 ≡ 0
unfolding gf1024 gf1024_numbers carried quadratic gf32 gf32_numbers
zero_number = refl

root : (j : ℕ) → 24 ≤ j → j ≤ 26 → eval gf1024 (map lift1024 (generator_poly gf32 bech32)) (pow gf1024 bech32.root j) ≡ gf1024.𝟘
unfolding at_power
root j p h =
    let back : 24 + (j - 24) ≡ j = omega arith in
    let value : at_power j ≡ 0 = sym (ap at_power back) ∙ roots_test (j - 24) (omega arith) in
    sym (gf1024_numbers.element_number _) ∙ ap gf1024_numbers.element (value ∙ sym zero_number) ∙ gf1024_numbers.element_number gf1024.𝟘

pub sheet_lawful : IsLawfulCode gf32 gf1024 lift1024 bech32
unfolding bech32
sheet_lawful = record {
  root_ne_zero = order_ne_zero gf1024 bech32.root 1023 root_has_order_1023;
  exponents = lit≤ tt;
  exponents_small = lit≤ tt;
  roots = root;
  some_checks = lit≤ tt;
  few_checks = lit≤ tt;
  target_length = refl;
  limit_above = lit< tt;
  limit_small = lit≤ tt;
  limit_order = λ j p h. root_has_order_1023.least j p (omega arith);
  bound_small = lit≤ tt;
}
