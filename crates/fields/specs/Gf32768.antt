-- GF(32768) over the struct itself, as triples over GF(32) with ζ³ = 1 + ζ.
--   gf32768_operations   its sum, product, negative and inverse
--   gf32768              the field: these, and their laws, which are those of the triples
--   fe32768_decides      a test of the three parts tells whether two elements are one
--   gf32768_numbers      c0 + c1 ζ + c2 ζ² has the number c0 + 32 c1 + 1024 c2
--   gf32768_generator    an element whose powers are all elements but ZERO
--   lift32768            an element of GF(32) as one of GF(32768)
use Rattle.std.specs.Prelude.{◌≡◌, ℕ, ◌<◌, ◌+◌, ◌*◌, ◌/◌, ◌%◌, ◌==◌, ◌&&◌, refl, Decides}
use Rattle.std.proofs.Common.{ap, ◌∙◌, arith, lit<, lit≤}
use Rattle.std.proofs.lemmas.Bool.Decides.{Decides-and, Decides-like}
use Rattle.algebra.specs.Field.{Operations, IsField, FieldOn, Enumeration}
use Rattle.algebra.specs.Triple.{Triple, each, triple_add, triple_mul, inverse}
use Rattle.algebra.proofs.Cubic.{cubic}
use Rattle.algebra.proofs.Carried.{carried}
use Rattle.fields.specs.Gf32.{gf32, gf32_numbers, fe, fe_decides}
use Rattle.fields.specs.declared.gf32.Fe32.{Fe32}
use Rattle.fields.specs.Laws.Irreducible.{no_cube}
use Rattle.fields.specs.declared.gf32768.Fe32768.{Fe32768}

abbrev pub fe32768 : Fe32 → Fe32 → Fe32 → Fe32768
fe32768 a b c = record { c0 = a; c1 = b; c2 = c }

pub fe32768_path : (x y : Fe32768) → x.c0 ≡ y.c0 → x.c1 ≡ y.c1 → x.c2 ≡ y.c2 → x ≡ y
fe32768_path x y p q r = λ i. record { c0 = p i; c1 = q i; c2 = r i }

abbrev pub triple : Fe32768 → Triple Fe32
triple x = record { c0 = x.c0; c1 = x.c1; c2 = x.c2 }

pub fe32768_decides : (x y : Fe32768) → Decides (x.c0.value == y.c0.value && (x.c1.value == y.c1.value && x.c2.value == y.c2.value)) (x ≡ y)
fe32768_decides x y =
    let upper = Decides-and _ _ (fe_decides x.c1 y.c1) (fe_decides x.c2 y.c2) in
    let parts = Decides-and _ _ (fe_decides x.c0 y.c0) upper in
    Decides-like _ (λ p. fe32768_path x y p.0 p.1.0 p.1.1) (λ e. (ap (λ z. z.c0) e, (ap (λ z. z.c1) e, ap (λ z. z.c2) e))) parts

abbrev of_triple : Triple Fe32 → Fe32768
of_triple t = fe32768 t.c0 t.c1 t.c2

abbrev pub gf32768_operations : Operations Fe32768
gf32768_operations = record {
  𝟘 = fe32768 gf32.𝟘 gf32.𝟘 gf32.𝟘;
  𝟙 = fe32768 gf32.𝟙 gf32.𝟘 gf32.𝟘;
  add = λ x y. of_triple (triple_add gf32.add gf32.mul (triple x) (triple y));
  mul = λ x y. of_triple (triple_mul gf32.add gf32.mul (triple x) (triple y));
  neg = λ x. of_triple (each gf32.neg (triple x));
  inv = λ x. of_triple (inverse gf32 (triple x));
}

-- the field of the triples, carried to the struct
abbrev triples : FieldOn Fe32768
triples = carried (cubic gf32 no_cube) triple of_triple (λ x. refl) (λ t. refl)

pub fe32768_dec_eq : (x y : Fe32768) → Dec (x ≡ y)
fe32768_dec_eq = triples.dec_eq

pub gf32768_laws : IsField gf32768_operations
unfolding carried cubic
gf32768_laws = triples.laws

unfoldable pub gf32768 : FieldOn Fe32768
gf32768 = record { operations = gf32768_operations; dec_eq = fe32768_dec_eq; laws = gf32768_laws }

abbrev pub gf32768_number : Fe32768 → ℕ
gf32768_number x = gf32_numbers.number x.c0 + 32 * gf32_numbers.number x.c1 + 1024 * gf32_numbers.number x.c2

number_parts : (a b c : ℕ) → a < 32 → b < 32 → let n = a + 32 * b + 1024 * c in (n % 32 ≡ a) × (n / 32 % 32 ≡ b) × (n / 1024 ≡ c)
number_parts a b c ha hb =
    let upper : (a + 32 * b + 1024 * c) / 32 ≡ b + 32 * c = omega arith in
    (omega arith, ap (λ (n : ℕ). n % 32) upper ∙ omega arith, omega arith)

pub element_of_number : (x : Fe32768) → let n = gf32768_number x in fe32768 (gf32_numbers.element (n % 32)) (gf32_numbers.element (n / 32 % 32)) (gf32_numbers.element (n / 1024)) ≡ x
unfolding gf32_numbers
element_of_number x =
    let N = gf32_numbers in
    let parts = number_parts (N.number x.c0) (N.number x.c1) (N.number x.c2) (N.below x.c0) (N.below x.c1) in
    fe32768_path _ _ (ap N.element parts.0 ∙ N.element_number x.c0) (ap N.element parts.1 ∙ N.element_number x.c1) (ap N.element parts.2 ∙ N.element_number x.c2)

unfoldable pub gf32768_numbers : Enumeration Fe32768
unfolding gf32_numbers
gf32768_numbers = record {
  size = 32768;
  number = gf32768_number;
  element = λ n. fe32768 (gf32_numbers.element (n % 32)) (gf32_numbers.element (n / 32 % 32)) (gf32_numbers.element (n / 1024));
  small = lit≤ tt;
  below = λ x. omega (arith, x.c0.ok, x.c1.ok, x.c2.ok);
  element_number = element_of_number;
  number_element = λ n h. omega arith;
}

abbrev pub gf32768_generator : Fe32768
gf32768_generator = fe32768 (fe 29 (lit< tt)) (fe 24 (lit< tt)) (fe 0 (lit< tt))

abbrev pub lift32768 : Fe32 → Fe32768
lift32768 a = fe32768 a gf32.𝟘 gf32.𝟘
