-- The finish code is lawful.
use Rattle.std.proofs.Common.{◌≡◌, ℕ, zero, suc, ◌<◌, ◌≤◌, map, eqb, eqb→eq, refl, lit<, lit≤, arith}
use Rattle.algebra.specs.Field.{pow}
use Rattle.algebra.specs.Poly.{eval}
use Rattle.algebra.specs.Code.{IsLawfulCode, generator_poly}
use Rattle.algebra.proofs.Orders.{order_ne_zero}
use Rattle.fields.specs.declared.gf32.Fe32.{Fe32}
use Rattle.fields.specs.Binary.{binary_product}
use Rattle.algebra.proofs.Tests.{every_at}
use Rattle.fields.specs.Gf32.{gf32, fe, fe_path}
use Rattle.fields.specs.Laws.Gf32.{t_has_order_31}
use Rattle.checksum.specs.Finish.{finish}

-- the generator polynomial's value at a power of the root, as a number
at_power : ℕ → ℕ
at_power j = (eval gf32 (map (λ (x : Fe32). x) (generator_poly gf32 finish)) (pow gf32 (fe 2 (lit< tt)) j)).value

roots_test : (j : ℕ) → j < 4 → at_power (suc j) ≡ 0
unfolding finish gf32 binary_product at_power
roots_test j h = eqb→eq (at_power (suc j)) 0 (every_at 4 (λ i. eqb (at_power (suc i)) 0) tt j h)

roots : (j : ℕ) → 1 ≤ j → j ≤ 4 → at_power j ≡ 0
roots zero p h = absurd (omega arith)
roots (suc j) p h = roots_test j (omega arith)

pub finish_lawful : IsLawfulCode gf32 gf32 (λ x. x) finish
unfolding finish at_power gf32
finish_lawful = record {
  root_ne_zero = order_ne_zero gf32 finish.root 31 t_has_order_31;
  exponents = lit≤ tt;
  exponents_small = lit≤ tt;
  roots = λ j p h. fe_path _ _ (roots j p h);
  some_checks = lit≤ tt;
  few_checks = lit≤ tt;
  target_length = refl;
  limit_above = lit< tt;
  limit_small = lit≤ tt;
  limit_order = t_has_order_31.least;
  bound_small = lit≤ tt;
}
