-- GF(1024) over the struct itself, as pairs over GF(32) with ζ² = 1 + ζ.
--   gf1024_operations   its sum, product, negative and inverse
--   gf1024              the field: these, and their laws, which are those of the pairs
--   fe1024_decides      a test of both parts tells whether two elements are one
--   gf1024_numbers      c0 + c1 ζ has the number c0 + 32 c1
--   gf1024_generator    an element whose powers are all elements but ZERO
--   lift1024            an element of GF(32) as one of GF(1024)
use Rattle.std.specs.Prelude.{◌≡◌, ℕ, ◌<◌, ◌+◌, ◌*◌, ◌/◌, ◌%◌, ◌==◌, ◌&&◌, refl, Decides}
use Rattle.std.proofs.Common.{ap, ap₂, ◌∙◌, arith, lit<, lit≤}
use Rattle.std.proofs.lemmas.Bool.Decides.{Decides-and, Decides-like}
use Rattle.algebra.specs.Field.{Operations, IsField, FieldOn, Enumeration}
use Rattle.algebra.specs.Pair.{Pair, both, pair_add, pair_mul, quotient}
use Rattle.algebra.proofs.Quadratic.{quadratic}
use Rattle.algebra.proofs.Carried.{carried}
use Rattle.fields.specs.Gf32.{gf32, gf32_numbers, fe, fe_decides}
use Rattle.fields.specs.declared.gf32.Fe32.{Fe32}
use Rattle.fields.specs.Laws.Irreducible.{no_square}
use Rattle.fields.specs.declared.gf1024.Fe1024.{Fe1024}

abbrev pub fe1024 : Fe32 → Fe32 → Fe1024
fe1024 a b = record { c0 = a; c1 = b }

abbrev pub pair : Fe1024 → Pair Fe32
pair x = record { c0 = x.c0; c1 = x.c1 }

pub fe1024_decides : (x y : Fe1024) → Decides (x.c0.value == y.c0.value && x.c1.value == y.c1.value) (x ≡ y)
fe1024_decides x y =
    let parts = Decides-and _ _ (fe_decides x.c0 y.c0) (fe_decides x.c1 y.c1) in
    Decides-like _ (λ p. ap₂ fe1024 p.0 p.1) (λ e. (ap (λ z. z.c0) e, ap (λ z. z.c1) e)) parts

abbrev of_pair : Pair Fe32 → Fe1024
of_pair p = fe1024 p.c0 p.c1

abbrev pub gf1024_operations : Operations Fe1024
gf1024_operations = record {
  𝟘 = fe1024 gf32.𝟘 gf32.𝟘;
  𝟙 = fe1024 gf32.𝟙 gf32.𝟘;
  add = λ x y. of_pair (pair_add gf32.add gf32.mul (pair x) (pair y));
  mul = λ x y. of_pair (pair_mul gf32.add gf32.mul gf32.𝟙 gf32.𝟙 (pair x) (pair y));
  neg = λ x. of_pair (both gf32.neg (pair x));
  inv = λ x. of_pair (quotient gf32 gf32.𝟙 gf32.𝟙 (pair x));
}

-- the field of the pairs, carried to the struct
abbrev pairs : FieldOn Fe1024
pairs = carried (quadratic gf32 gf32.𝟙 gf32.𝟙 no_square) pair of_pair (λ x. refl) (λ p. refl)

pub fe1024_dec_eq : (x y : Fe1024) → Dec (x ≡ y)
fe1024_dec_eq = pairs.dec_eq

pub gf1024_laws : IsField gf1024_operations
unfolding carried quadratic
gf1024_laws = pairs.laws

unfoldable pub gf1024 : FieldOn Fe1024
gf1024 = record { operations = gf1024_operations; dec_eq = fe1024_dec_eq; laws = gf1024_laws }

number_parts : (a b : ℕ) → a < 32 → ((a + 32 * b) % 32 ≡ a) × ((a + 32 * b) / 32 ≡ b)
number_parts a b h = (omega arith, omega arith)

pub element_of_number : (x : Fe1024) → let n = gf32_numbers.number x.c0 + 32 * gf32_numbers.number x.c1 in fe1024 (gf32_numbers.element (n % 32)) (gf32_numbers.element (n / 32)) ≡ x
unfolding gf32_numbers
element_of_number x =
    let N = gf32_numbers in
    let parts = number_parts (N.number x.c0) (N.number x.c1) (N.below x.c0) in
    ap₂ fe1024 (ap N.element parts.0 ∙ N.element_number x.c0) (ap N.element parts.1 ∙ N.element_number x.c1)

unfoldable pub gf1024_numbers : Enumeration Fe1024
unfolding gf32_numbers
gf1024_numbers = record {
  size = 1024;
  number = λ x. gf32_numbers.number x.c0 + 32 * gf32_numbers.number x.c1;
  element = λ n. fe1024 (gf32_numbers.element (n % 32)) (gf32_numbers.element (n / 32));
  small = lit≤ tt;
  below = λ x. omega (arith, x.c0.ok, x.c1.ok);
  element_number = element_of_number;
  number_element = λ n h. omega arith;
}

abbrev pub gf1024_generator : Fe1024
gf1024_generator = fe1024 (fe 1 (lit< tt)) (fe 23 (lit< tt))

abbrev pub lift1024 : Fe32 → Fe1024
lift1024 a = fe1024 a gf32.𝟘
