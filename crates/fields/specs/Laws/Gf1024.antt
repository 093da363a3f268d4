-- GF(1024) is cyclic, an element plus itself is ZERO, and lifting keeps sums and products.
use Rattle.std.proofs.Common.{ap, ap₂}
use Rattle.std.specs.Prelude.{[], ◌∷◌, refl}
use Rattle.algebra.specs.Field.{IsCyclic, HasCharacteristicTwo, HasOrder, IsEmbedding}
use Rattle.algebra.specs.Pair.{Pair}
use Rattle.algebra.proofs.Quadratic.{quadratic, quadratic_lifts}
use Rattle.algebra.proofs.Squaring.{squaring}
use Rattle.fields.specs.Binary.{binary_product}
use Rattle.fields.specs.Gf32.{gf32, gf32_numbers}
use Rattle.fields.specs.Laws.Gf32.{gf32_characteristic_two}
use Rattle.fields.specs.declared.gf32.Fe32.{Fe32}
use Rattle.fields.specs.Laws.Irreducible.{no_square}
use Rattle.fields.specs.Gf1024.{gf1024, gf1024_numbers, gf1024_generator, fe1024, lift1024}
use Rattle.fields.specs.declared.gf1024.Fe1024.{Fe1024}
use Rattle.algebra.proofs.Computed.{order_is}

-- 1023 = 3 × 11 × 31
pub generator_has_order_1023 : HasOrder gf1024 gf1024_generator 1023
unfolding squaring gf1024 gf1024_numbers gf32 gf32_numbers binary_product
generator_has_order_1023 = order_is gf1024 gf1024_numbers gf1024_generator 1022 (1 ∷ 3 ∷ 11 ∷ 31 ∷ 33 ∷ 93 ∷ 341 ∷ []) refl refl (tt, (tt, (tt, (tt, (tt, (tt, (tt, tt)))))))

pub gf1024_cyclic : IsCyclic gf1024 gf1024_numbers gf1024_generator 1023
unfolding gf1024_numbers
gf1024_cyclic = record { order_is = refl; generates = generator_has_order_1023 }

pub gf1024_characteristic_two : HasCharacteristicTwo gf1024
unfolding gf1024
gf1024_characteristic_two x = ap₂ fe1024 (gf32_characteristic_two x.c0) (gf32_characteristic_two x.c1)

pub lift1024_lifts : IsEmbedding gf32 gf1024 lift1024
unfolding gf1024 quadratic
lift1024_lifts =
    let up = quadratic_lifts gf32 gf32.𝟙 gf32.𝟙 no_square in
    let back : Pair Fe32 → Fe1024 = λ p. fe1024 p.c0 p.c1 in
    record { sums = λ x y. ap back (up.sums x y); products = λ x y. ap back (up.products x y); one_to_one = λ x y e. ap (λ (z : Fe1024). z.c0) e }
