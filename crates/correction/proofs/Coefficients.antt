-- Lists by their coefficients: ZEROs past the degree change no product, no value and no derivative.
use Rattle.std.proofs.Common.{◌≡◌, ℕ, zero, suc, ◌+◌, ◌<◌, ◌≤◌, min, List, [], ◌∷◌, length, sym, refl, ap, ◌∙◌, ap₂, arith}
use mathlib.Core.Path.{fun_ext}
use native.Mathlib.Decide.{dec_le, dec_lt}
use Rattle.algebra.specs.Field.{FieldOn, multiple}
use Rattle.algebra.specs.Poly.{coeff, eval, poly_mul, tab}
use Rattle.algebra.specs.Series.{product_term, deriv}
use Rattle.algebra.proofs.Derivative.{coeff_deriv}
use Rattle.algebra.proofs.Eval.{eval_coeff}
use Rattle.algebra.proofs.Laws.{ring}
use Rattle.algebra.proofs.Poly.{coeff_high}
use Rattle.algebra.proofs.Series.{times_poly_mul, unit, times_unit}
use Rattle.algebra.proofs.Tab.{length_tab, coeff_tab}
use Rattle.lists.specs.Lists.{highest, degree, formal_derivative, mul_mod_x_d}
use Rattle.lists.proofs.Degrees.{degree_below}

module _ {A : Type 0} (F : FieldOn A) where
  open F use {𝟘, add as ◌⊕◌, mul as ◌⊗◌, zero_add}

  infixl 60 ◌⊕◌
  infixl 70 ◌⊗◌
  highest_above : (p : List A) (n m : ℕ) → highest F p n < m → m ≤ n → coeff F p m ≡ 𝟘
  highest_above p zero m h k = absurd (omega arith)
  highest_above p (suc n) m h k = by (F.dec_eq (coeff F p (suc n)) 𝟘) h (highest_above p n m) (dec_le m n)
    where
      by : (d : Dec (coeff F p (suc n) ≡ 𝟘)) → elim d [ yes _ ↦ highest F p n | no _ ↦ suc n ] < m → (highest F p n < m → m ≤ n → coeff F p m ≡ 𝟘) → Dec (m ≤ n) → coeff F p m ≡ 𝟘
      by (yes e) l below (yes i) = below l i
      by (yes e) l below (no i) = let at : m ≡ suc n = omega arith in ap (coeff F p) at ∙ e
      by (no e) l below i = absurd (omega arith)

  -- above the degree all is ZERO
  pub above_degree : (p : List A) (m : ℕ) → degree F p < m → coeff F p m ≡ 𝟘
  above_degree p m h = by (dec_le m (length p))
    where
      by : Dec (m ≤ length p) → coeff F p m ≡ 𝟘
      by (yes k) = highest_above p (length p) m h k
      by (no k) = coeff_high F p m (omega arith)

  -- a list whose last entry is not ZERO
  pub degree_is : (p : List A) (n : ℕ) → length p ≡ n + 1 → ¬ (coeff F p n ≡ 𝟘) → degree F p ≡ n
  degree_is p n l top = by (dec_lt (degree F p) n)
    where
      by : Dec (degree F p < n) → degree F p ≡ n
      by (yes h) = absurd (top (above_degree p n h))
      by (no h) = omega (arith, degree_below F p)

  -- the product with a series reads coefficients only
  times_none : (p : List A) (g : ℕ → A) → ((m : ℕ) → coeff F p m ≡ 𝟘) → (n : ℕ) → product_term F p g n ≡ 𝟘
  times_none [] g h n = refl
  times_none (a ∷ p) g h zero = ap (λ s. s ⊗ g 0 ⊕ 𝟘) (h 0) ∙ simp ring
  times_none (a ∷ p) g h (suc n) = ap₂ (λ s t. s ⊗ g (suc n) ⊕ t) (h 0) (times_none p g (λ m. h (suc m)) n) ∙ simp ring

  pub times_coeff : (p q : List A) (g : ℕ → A) → ((m : ℕ) → coeff F p m ≡ coeff F q m) → (n : ℕ) → product_term F p g n ≡ product_term F q g n
  times_coeff [] q g h n = sym (times_none q g (λ m. sym (h m)) n)
  times_coeff (a ∷ p) [] g h n = times_none (a ∷ p) g h n
  times_coeff (a ∷ p) (b ∷ q) g h zero = ap (λ s. s ⊗ g 0 ⊕ 𝟘) (h 0)
  times_coeff (a ∷ p) (b ∷ q) g h (suc n) = ap₂ (λ s t. s ⊗ g (suc n) ⊕ t) (h 0) (times_coeff p q g (λ m. h (suc m)) n)

  -- past both ends it is ZERO
  pub times_past : (p : List A) (g : ℕ → A) (D E n : ℕ) → ((m : ℕ) → D < m → coeff F p m ≡ 𝟘) → ((m : ℕ) → E < m → g m ≡ 𝟘) → D + E < n → product_term F p g n ≡ 𝟘
  times_past [] g D E n hp hg l = refl
  times_past (a ∷ p) g D E zero hp hg l = absurd (omega arith)
  times_past (a ∷ p) g zero E (suc n) hp hg l =
      ap₂ (λ s t. a ⊗ s ⊕ t) (hg (suc n) (omega arith)) (times_none p g (λ m. hp (suc m) (omega arith)) n) ∙ simp ring
  times_past (a ∷ p) g (suc D) E (suc n) hp hg l =
      ap₂ (λ s t. a ⊗ s ⊕ t) (hg (suc n) (omega arith)) (times_past p g D E n (λ m k. hp (suc m) (omega arith)) hg (omega arith)) ∙ simp ring

  pub past_degrees : (p q : List A) (n : ℕ) → degree F p + degree F q < n → product_term F p (coeff F q) n ≡ 𝟘
  past_degrees p q n h = times_past p (coeff F q) (degree F p) (degree F q) n (above_degree p) (above_degree q) h

  -- a product's coefficients
  pub coeff_times : (p q : List A) (n : ℕ) → coeff F (poly_mul F p q) n ≡ product_term F p (coeff F q) n
  coeff_times p q n = sym (times_unit F (poly_mul F p q) n) ∙ times_poly_mul F p q (unit F) n ∙ ap (λ g. product_term F p g n) (fun_ext (times_unit F q))

  -- terms of a series that is ZERO from some place on
  pub coeff_terms : (k : ℕ) (g : ℕ → A) → ((i : ℕ) → k ≤ i → g i ≡ 𝟘) → (n : ℕ) → coeff F (tab k g) n ≡ g n
  coeff_terms k g h n = by (dec_lt n k)
    where
      by : Dec (n < k) → coeff F (tab k g) n ≡ g n
      by (yes l) = coeff_tab F k g n l
      by (no l) = coeff_high F (tab k g) n (omega (arith, length_tab k g)) ∙ sym (h n (omega arith))

  -- fewer terms, where the others are ZERO
  pub coeff_fewer : (k d : ℕ) (g : ℕ → A) → k ≤ d → ((i : ℕ) → k ≤ i → i < d → g i ≡ 𝟘) → (n : ℕ) → coeff F (tab k g) n ≡ coeff F (tab d g) n
  coeff_fewer k d g l h n = by (dec_lt n k) (dec_lt n d)
    where
      none : (m : ℕ) → m ≤ n → coeff F (tab m g) n ≡ 𝟘
      none m i = coeff_high F (tab m g) n (omega (arith, length_tab m g))

      by : Dec (n < k) → Dec (n < d) → coeff F (tab k g) n ≡ coeff F (tab d g) n
      by (yes i) j = coeff_tab F k g n i ∙ sym (coeff_tab F d g n (omega arith))
      by (no i) (yes j) = none k (omega arith) ∙ sym (h n (omega arith) j) ∙ sym (coeff_tab F d g n j)
      by (no i) (no j) = none k (omega arith) ∙ sym (none d (omega arith))

  -- a product that is not cut
  pub coeff_product : (p q : List A) (d : ℕ) → degree F p + degree F q + 2 ≤ d → (n : ℕ) → coeff F (mul_mod_x_d F p q d) n ≡ coeff F (poly_mul F p q) n
  coeff_product p q d h n =
      coeff_terms (min d (degree F p + degree F q + 2)) (product_term F p (coeff F q)) (λ i l. past_degrees p q i (omega arith)) n ∙ sym (coeff_times p q n)

  -- a product that is cut at d has its first d terms
  pub eval_product : (p q : List A) (d : ℕ) (x : A) → eval F (mul_mod_x_d F p q d) x ≡ eval F (tab d (product_term F p (coeff F q))) x
  eval_product p q d x =
      eval_coeff F (mul_mod_x_d F p q d) (tab d (product_term F p (coeff F q))) x
      (coeff_fewer (min d (degree F p + degree F q + 2)) d (product_term F p (coeff F q)) (omega arith) (λ i l k. past_degrees p q i (omega arith)))

  multiple_zero : (n : ℕ) → multiple F 𝟘 n ≡ 𝟘
  multiple_zero zero = refl
  multiple_zero (suc n) = zero_add (multiple F 𝟘 n) ∙ multiple_zero n

  -- the derivative up to the degree
  pub eval_derivative : (p : List A) (x : A) → eval F (formal_derivative F p) x ≡ eval F (deriv F p) x
  eval_derivative p x =
      eval_coeff F (formal_derivative F p) (deriv F p) x (
      λ n. coeff_terms (degree F p) (λ i. multiple F (coeff F p (suc i)) (suc i))
      (λ i l. ap (λ t. multiple F t (suc i)) (above_degree p (suc i) (omega arith)) ∙ multiple_zero (suc i)) n
      ∙ sym (coeff_deriv F p n))
