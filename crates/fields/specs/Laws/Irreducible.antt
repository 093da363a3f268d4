-- No element r of GF(32) has r² = 1 + r, and none has r³ = r + 1: tests of 32 cases, computed when the proof is checked.
use Rattle.std.specs.Prelude.{◌≡◌, ℕ, ◌<◌, not, T, ◌==◌, bit_xor}
use Rattle.std.proofs.Common.{ap, subst}
use Rattle.std.proofs.lemmas.Bool.{eq-eqb}
use Rattle.fields.specs.Binary.{binary_product}
use Rattle.algebra.proofs.Tests.{every_at}
use Rattle.fields.specs.Gf32.{gf32}
use Rattle.fields.specs.declared.gf32.Fe32.{Fe32}

apart : (a b : ℕ) → T (not (a == b)) → ¬ (a ≡ b)
apart a b t e = subst (λ b. T (not b)) (eq-eqb a b e) t

square_apart : (a : ℕ) → a < 32 → T (not (binary_product a a == bit_xor 1 (binary_product 1 a)))
unfolding binary_product
square_apart a h = every_at 32 (λ x. not (binary_product x x == bit_xor 1 (binary_product 1 x))) tt a h

cube_apart : (a : ℕ) → a < 32 → T (not (binary_product (binary_product a a) a == bit_xor a 1))
unfolding binary_product
cube_apart a h = every_at 32 (λ x. not (binary_product (binary_product x x) x == bit_xor x 1)) tt a h

pub no_square : (r : Fe32) → ¬ (gf32.mul r r ≡ gf32.add gf32.𝟙 (gf32.mul gf32.𝟙 r))
unfolding gf32
no_square r e = apart _ _ (square_apart r.value r.ok) (ap (λ (x : Fe32). x.value) e)

pub no_cube : (r : Fe32) → ¬ (gf32.mul (gf32.mul r r) r ≡ gf32.add r gf32.𝟙)
unfolding gf32
no_cube r e = apart _ _ (cube_apart r.value r.ok) (ap (λ (x : Fe32). x.value) e)
