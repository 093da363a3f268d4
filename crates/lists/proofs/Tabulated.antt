-- The terms of a convolution.
use Rattle.std.proofs.Common.{◌≡◌, ℕ, zero, suc, ◌+◌, ◌-◌, ◌<◌, max, List, length, refl, ap, ◌∙◌, arith}
use Rattle.algebra.specs.Field.{FieldOn}
use Rattle.algebra.specs.Poly.{tab, coeff}
use Rattle.algebra.specs.Series.{product_term}
use Rattle.algebra.proofs.Tab.{length_tab}
use Rattle.lists.specs.Lists.{degree, some_terms, convolution}

module _ {A : Type 0} (F : FieldOn A) where
  pub length_some_terms : (n : ℕ) (f : ℕ → A) → max n 1 ≡ length (some_terms F n f)
  length_some_terms zero f = omega arith
  length_some_terms (suc n) f = let l = length_tab (suc n) f in omega arith

  pub terms : (n : ℕ) (f : ℕ → A) → 0 < n → tab n f ≡ some_terms F n f
  terms zero f h = absurd (omega arith)
  terms (suc n) f h = refl

  pub convolved_size : (p s : List A) (n : ℕ) → n ≡ length s - degree F p → max n 1 ≡ length (convolution F p s)
  convolved_size p s n e = ap (λ m. max m 1) e ∙ length_some_terms (length s - degree F p) (λ j. product_term F p (coeff F s) (degree F p + j))
