-- How many entries the list functions write.
use Rattle.std.proofs.Common.{ℕ, suc, ◌+◌, ◌-◌, ◌<◌, ◌≤◌, min, List, length, arith}
use Rattle.algebra.specs.Field.{FieldOn, multiple}
use Rattle.algebra.specs.Poly.{coeff}
use Rattle.algebra.specs.Series.{product_term}
use Rattle.algebra.proofs.Berlekamp.{shortest}
use Rattle.algebra.proofs.Tab.{length_tab}
use Rattle.lists.specs.Registers.{connection_list}
use Rattle.lists.specs.Lists.{convolution, degree, formal_derivative, mul_mod_x_d}
use Rattle.lists.proofs.Degrees.{degree_below}
use Rattle.lists.proofs.Tabulated.{length_some_terms}

module _ {A : Type 0} (F : FieldOn A) where
  pub some_convolved : (p s : List A) → 0 < length (convolution F p s)
  some_convolved p s = omega (arith, length_some_terms F (length s - degree F p) (λ j. product_term F p (coeff F s) (degree F p + j)))

  pub few_convolved : (p s : List A) → length (convolution F p s) ≤ length s + 1
  few_convolved p s = omega (arith, length_some_terms F (length s - degree F p) (λ j. product_term F p (coeff F s) (degree F p + j)))

  pub some_connection : (s : List A) → 0 < length (connection_list F s)
  some_connection s = omega (arith, (shortest F (coeff F s) (length s)).size)

  pub some_product : (p q : List A) (d : ℕ) → 0 < d → 0 < length (mul_mod_x_d F p q d)
  some_product p q d some = omega (arith, length_tab (min d (degree F p + degree F q + 2)) (product_term F p (coeff F q)))

  pub cut_product : (p q : List A) (d : ℕ) → length (mul_mod_x_d F p q d) ≤ d
  cut_product p q d = omega (arith, length_tab (min d (degree F p + degree F q + 2)) (product_term F p (coeff F q)))

  pub few_product : (p q : List A) (d : ℕ) → 0 < length p → 0 < length q → length (mul_mod_x_d F p q d) ≤ length p + length q
  few_product p q d some many =
      omega (arith, length_tab (min d (degree F p + degree F q + 2)) (product_term F p (coeff F q)), degree_below F p, degree_below F q)

  pub few_derivative : (p : List A) → length (formal_derivative F p) ≤ length p - 1
  few_derivative p = omega (arith, length_tab (degree F p) (λ i. multiple F (coeff F p (suc i)) (suc i)), degree_below F p)
