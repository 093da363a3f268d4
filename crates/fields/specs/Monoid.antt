-- What a monoid is, its values joined to themselves, and the two monoids of a field.
--   IsMonoid neutral op     op may be grouped in any way, and the neutral value changes no other
--   repeat neutral op x n   x joined n times
--   sum_unit, sum_of, product_unit, product_of   the sums and the products of a field
use Rattle.std.specs.Prelude.{◌≡◌, ℕ, zero, suc}
use Rattle.std.proofs.Common.{ap}
use Rattle.algebra.specs.Field.{FieldOn}
use Rattle.algebra.proofs.Laws.{add_zero, mul_one}
use Rattle.fields.specs.declared.monoid.Product.{Product}
use Rattle.fields.specs.declared.monoid.Sum.{Sum}

pub record IsMonoid {M : Type 0} (neutral : M) (op : M → M → M) : Type 0 where
  pub left_neutral : (x : M) → op neutral x ≡ x
  pub right_neutral : (x : M) → op x neutral ≡ x
  pub assoc : (x y z : M) → op (op x y) z ≡ op x (op y z)

abbrev pub repeat : {M : Type 0} → M → (M → M → M) → M → ℕ → M
repeat neutral op x zero = neutral
repeat neutral op x (suc n) = op x (repeat neutral op x n)

module _ {A : Type 0} (F : FieldOn A) where
  abbrev pub sum_unit : Sum A
  sum_unit = record { 0 = F.𝟘 }

  abbrev pub sum_of : Sum A → Sum A → Sum A
  sum_of x y = record { 0 = F.add x.0 y.0 }

  abbrev as_sum : A → Sum A
  as_sum x = record { 0 = x }

  pub sum_laws : IsMonoid sum_unit sum_of
  sum_laws = record {
    left_neutral = λ x. ap as_sum (F.zero_add x.0);
    right_neutral = λ x. ap as_sum (add_zero F x.0);
    assoc = λ x y z. ap as_sum (F.add_assoc x.0 y.0 z.0);
  }

  abbrev pub product_unit : Product A
  product_unit = record { 0 = F.𝟙 }

  abbrev pub product_of : Product A → Product A → Product A
  product_of x y = record { 0 = F.mul x.0 y.0 }

  abbrev as_product : A → Product A
  as_product x = record { 0 = x }

  pub product_laws : IsMonoid product_unit product_of
  product_laws = record {
    left_neutral = λ x. ap as_product (F.one_mul x.0);
    right_neutral = λ x. ap as_product (mul_one F x.0);
    assoc = λ x y z. ap as_product (F.mul_assoc x.0 y.0 z.0);
  }
