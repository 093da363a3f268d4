-- Coefficient lists, lowest power first, and what the functions on them answer.
--   degree F p             the highest power whose coefficient is not ZERO; 0 for a list of ZEROs
--   leading_term F p       the coefficient of that power
--   formal_derivative F p  as many entries as the degree; entry i is (i + 1) times coefficient i + 1
--   mul_mod_x_d F p q d    the product from power 0 to the degrees' sum plus 1, but at most to d - 1
--   convolution F p s      entry j is the sum of p(f - i) × s(j + i) over i from 0 to f, the degree of p
use Rattle.std.specs.Prelude.{ℕ, zero, suc, ◌+◌, ◌-◌, min, List, [], ◌∷◌, length}
use Rattle.algebra.specs.Field.{FieldOn, multiple}
use Rattle.algebra.specs.Poly.{tab, coeff}
use Rattle.algebra.specs.Series.{product_term}

module _ {A : Type 0} (F : FieldOn A) where
  -- the highest power up to n whose coefficient is not ZERO, else 0
  abbrev pub highest : List A → ℕ → ℕ
  highest p zero = 0
  highest p (suc n) = elim (F.dec_eq (coeff F p (suc n)) F.𝟘) [ yes _ ↦ highest p n | no _ ↦ suc n ]

  abbrev pub degree : List A → ℕ
  degree p = highest p (length p)

  abbrev pub leading_term : List A → A
  leading_term p = coeff F p (degree p)

  abbrev pub formal_derivative : List A → List A
  formal_derivative p = tab (degree p) (λ i. multiple F (coeff F p (suc i)) (suc i))

  abbrev pub mul_mod_x_d : List A → List A → ℕ → List A
  mul_mod_x_d p q d = tab (min d (degree p + degree q + 2)) (product_term F p (coeff F q))

  -- n terms, and one ZERO where that is none
  abbrev pub some_terms : ℕ → (ℕ → A) → List A
  some_terms zero f = F.𝟘 ∷ []
  some_terms (suc n) f = tab (suc n) f

  abbrev pub convolution : List A → List A → List A
  convolution p s = some_terms (length s - degree p) (λ j. product_term F p (coeff F s) (degree p + j))
