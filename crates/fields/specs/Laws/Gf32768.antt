-- GF(32768) is cyclic, an element plus itself is ZERO, and lifting keeps sums and products.
use Rattle.std.proofs.Common.{ap}
use Rattle.std.specs.Prelude.{[], ◌∷◌, refl}
use Rattle.algebra.specs.Field.{IsCyclic, HasCharacteristicTwo, HasOrder, IsEmbedding}
use Rattle.algebra.specs.Triple.{Triple}
use Rattle.algebra.proofs.Cubic.{cubic, cubic_lifts}
use Rattle.algebra.proofs.Squaring.{squaring}
use Rattle.fields.specs.Binary.{binary_product}
use Rattle.fields.specs.Gf32.{gf32, gf32_numbers}
use Rattle.fields.specs.Laws.Gf32.{gf32_characteristic_two}
use Rattle.fields.specs.declared.gf32.Fe32.{Fe32}
use Rattle.fields.specs.Laws.Irreducible.{no_cube}
use Rattle.fields.specs.Gf32768.{gf32768, gf32768_numbers, gf32768_generator, fe32768, fe32768_path, lift32768}
use Rattle.fields.specs.declared.gf32768.Fe32768.{Fe32768}
use Rattle.algebra.proofs.Computed.{order_is}

-- 32767 = 7 × 31 × 151
pub generator_has_order_32767 : HasOrder gf32768 gf32768_generator 32767
unfolding squaring gf32768 gf32768_numbers gf32 gf32_numbers binary_product
generator_has_order_32767 = order_is gf32768 gf32768_numbers gf32768_generator 32766 (1 ∷ 7 ∷ 31 ∷ 151 ∷ 217 ∷ 1057 ∷ 4681 ∷ []) refl refl (tt, (tt, (tt, (tt, (tt, (tt, (tt, tt)))))))

pub gf32768_cyclic : IsCyclic gf32768 gf32768_numbers gf32768_generator 32767
unfolding gf32768_numbers
gf32768_cyclic = record { order_is = refl; generates = generator_has_order_32767 }

pub gf32768_characteristic_two : HasCharacteristicTwo gf32768
unfolding gf32768
gf32768_characteristic_two x = fe32768_path _ _ (gf32_characteristic_two x.c0) (gf32_characteristic_two x.c1) (gf32_characteristic_two x.c2)

pub lift32768_lifts : IsEmbedding gf32 gf32768 lift32768
unfolding gf32768 cubic
lift32768_lifts =
    let up = cubic_lifts gf32 no_cube in
    let back : Triple Fe32 → Fe32768 = λ t. fe32768 t.c0 t.c1 t.c2 in
    record { sums = λ x y. ap back (up.sums x y); products = λ x y. ap back (up.products x y); one_to_one = λ x y e. ap (λ (z : Fe32768). z.c0) e }
