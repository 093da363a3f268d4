-- GF(32) over the struct itself, as binary polynomials modulo t^5 + t^3 + 1.
--   gf32_operations   its sum, product, negative and inverse: of an element but ZERO its 30th power
--   gf32              the field: these, and their laws
--   gf32_numbers      the number of an element
--   gf32_generator    t, whose powers are all elements but ZERO
use Rattle.std.specs.Prelude.{◌≡◌, ℕ, ◌%◌, ◌<◌, ◌==◌, bit_xor, Decides}
use Rattle.std.proofs.Common.{ap, mod-lt, mod-eq_of_lt, arith, lit<, lit≤}
use mathlib.Core.HLevel.{is_prop→PathP}
use Rattle.std.proofs.Math.Bridge.{le_prop}
use Rattle.std.proofs.Math.Decide.{ℕ_discrete}
use Rattle.std.proofs.lemmas.Nat.{xor_lt, xor_comm}
use Rattle.std.proofs.lemmas.Bool.Decides.{Decides-eqb, Decides-like}
use Rattle.std.specs.Int.Bits.{xor_assoc, xor_zero_l, xor_self}
use Rattle.algebra.specs.Field.{Operations, IsField, FieldOn, Enumeration}
use Rattle.fields.specs.Binary.{binary_product, binary_power}
use Rattle.fields.specs.Laws.Binary.{product_lt, product_comm, product_assoc, product_add, one_product, power_30_lt, power_31}
use Rattle.fields.specs.declared.gf32.Fe32.{Fe32}

abbrev pub fe : (n : ℕ) → n < 32 → Fe32
fe n h = record { value = n; ok = h }

-- an element is its number
pub fe_path : (x y : Fe32) → x.value ≡ y.value → x ≡ y
fe_path x y e = λ i. record { value = e i; ok = is_prop→PathP (λ j. e j < 32) (λ j. le_prop) x.ok y.ok i }

unfoldable pub fe_dec_eq : (x y : Fe32) → Dec (x ≡ y)
fe_dec_eq x y = elim (ℕ_discrete x.value y.value) [ yes e ↦ yes (fe_path x y e) | no e ↦ no (λ p. e (ap (λ z. z.value) p)) ]

-- a test of the two numbers tells whether the elements are one
pub fe_decides : (x y : Fe32) → Decides (x.value == y.value) (x ≡ y)
fe_decides x y = Decides-like _ (fe_path x y) (ap (λ z. z.value)) (Decides-eqb x.value y.value)

abbrev pub gf32_operations : Operations Fe32
gf32_operations = record {
  𝟘 = fe 0 (lit< tt);
  𝟙 = fe 1 (lit< tt);
  add = λ x y. fe (bit_xor x.value y.value) (xor_lt 5 x.value y.value x.ok y.ok);
  mul = λ x y. fe (binary_product x.value y.value) (product_lt x.value y.value x.ok y.ok);
  neg = λ x. x;
  inv = λ x. fe (binary_power x.value 30) (power_30_lt x.value x.ok);
}

pub gf32_laws : IsField gf32_operations
gf32_laws = record {
  add_assoc = λ x y z. fe_path _ _ (xor_assoc x.value y.value z.value);
  add_comm = λ x y. fe_path _ _ (xor_comm x.value y.value);
  zero_add = λ x. fe_path _ _ (xor_zero_l x.value);
  add_neg = λ x. fe_path _ _ (xor_self x.value);
  mul_assoc = λ x y z. fe_path _ _ (product_assoc x.value y.value z.value x.ok y.ok z.ok);
  mul_comm = λ x y. fe_path _ _ (product_comm x.value y.value x.ok y.ok);
  one_mul = λ x. fe_path _ _ (one_product x.value x.ok);
  mul_add = λ x y z. fe_path _ _ (product_add x.value y.value z.value x.ok y.ok z.ok);
  mul_inv = λ x h. fe_path _ _ (power_31 x.value x.ok (λ e. h (fe_path _ _ e)));
  one_ne_zero = λ e. let z : ◌≡◌ {A = ℕ} 1 0 = ap (λ (x : Fe32). x.value) e in omega arith;
}

unfoldable pub gf32 : FieldOn Fe32
gf32 = record { operations = gf32_operations; dec_eq = fe_dec_eq; laws = gf32_laws }

unfoldable pub gf32_numbers : Enumeration Fe32
gf32_numbers = record {
  size = 32;
  number = λ x. x.value;
  element = λ n. fe (n % 32) (mod-lt n {m = 32} (lit< tt));
  small = lit≤ tt;
  below = λ x. x.ok;
  element_number = λ x. fe_path _ _ (mod-eq_of_lt x.ok);
  number_element = λ n h. mod-eq_of_lt h;
}

abbrev pub gf32_generator : Fe32
gf32_generator = fe 2 (lit< tt)
