-- What the list functions write, in the words of decoding: the register of the convolved syndromes, its product with the
-- locator of the erasures, the first terms of that times the syndromes, and its derivative.
use Rattle.std.proofs.Common.{◌≡◌, ℕ, zero, suc, ◌+◌, ◌-◌, ◌*◌, ◌<◌, ◌≤◌, min, Bool, List, [], ◌∷◌, length, refl, ap, ◌∙◌, ap₂, arith}
use native.Mathlib.Decide.{dec_lt}
use Rattle.algebra.specs.Field.{FieldOn, pow}
use Rattle.algebra.specs.Poly.{coeff, eval, poly_mul, tab}
use Rattle.algebra.specs.Series.{product_term, deriv, locator}
use Rattle.algebra.specs.Register.{first_state, next_state, register}
use Rattle.algebra.specs.Rows.{count_true, positions}
use Rattle.algebra.specs.Decode.{folded_syndromes, error_locator, errata_locator, errata_evaluator}
use Rattle.algebra.proofs.Berlekamp.{shortest, register_long, register_agree}
use Rattle.algebra.proofs.Derivative.{deriv_coeff}
use Rattle.algebra.proofs.Flags.{length_positions}
use Rattle.algebra.proofs.Laws.{ring}
use Rattle.algebra.proofs.Locator.{length_locator, top_ne_zero}
use Rattle.algebra.proofs.Orders.{pow_ne_zero}
use Rattle.algebra.proofs.Series.{times_agree}
use Rattle.algebra.proofs.Tab.{length_tab, coeff_tab, tab_same}
use Rattle.lists.specs.Lists.{degree, formal_derivative, mul_mod_x_d, some_terms, convolution}
use Rattle.lists.proofs.Degrees.{degree_below}
use Rattle.lists.specs.Registers.{connection_list}
use Rattle.correction.proofs.Coefficients.{degree_is, times_coeff, coeff_product, eval_product, eval_derivative}

module _ {A : Type 0} (F : FieldOn A) where
  open F use {𝟘, 𝟙, add as ◌⊕◌, mul as ◌⊗◌}

  infixl 60 ◌⊕◌
  infixl 70 ◌⊗◌
  -- one ZERO has the register of no terms
  zero_term : (g : ℕ → A) → g 0 ≡ 𝟘 → (register F g 1).conn ≡ 𝟙 ∷ []
  zero_term g e = by (F.dec_eq (𝟙 ⊗ g 0 ⊕ 𝟘) 𝟘) (dec_lt 0 (2 * 0))
    where
      by : (z : Dec (𝟙 ⊗ g 0 ⊕ 𝟘 ≡ 𝟘)) (l : Dec (0 < 2 * 0)) → (next_state F 0 (first_state F) (𝟙 ⊗ g 0 ⊕ 𝟘) z l).conn ≡ 𝟙 ∷ []
      by (yes z) l = refl
      by (no z) l = absurd (z (ap (λ t. 𝟙 ⊗ t ⊕ 𝟘) e ∙ simp ring))

  connection_terms : (k : ℕ) (g h : ℕ → A) → ((j : ℕ) → j < k → g j ≡ h j) → connection_list F (some_terms F k g) ≡ (register F h k).conn
  connection_terms zero g h e = zero_term (coeff F (𝟘 ∷ [])) refl
  connection_terms (suc k) g h e =
      let t = tab (suc k) g in
      ap (λ n. (register F (coeff F t) n).conn) (length_tab (suc k) g)
      ∙ ap (λ st. st.conn) (register_agree F (coeff F t) h (suc k) (λ j l. coeff_tab F (suc k) g j l ∙ e j l))

  -- no more marks than syndromes, some and at most 16 of these, and an element that is not ZERO
  module _ (s : List A) (marks : List Bool) (a : A) (few : count_true marks ≤ length s) (some : 1 ≤ length s) (short : length s ≤ 16) (nonzero : ¬ (a ≡ 𝟘)) where
    abbrev X : ℕ → A
    X = pow F a

    abbrev ps : List ℕ
    ps = positions marks

    abbrev d : ℕ
    d = length s

    abbrev S : ℕ → A
    S = coeff F s

    abbrev Γ : List A
    Γ = locator F X ps

    abbrev Λ : List A
    Λ = error_locator F X ps S d

    abbrev f : ℕ
    f = length ps

    marked : f ≡ count_true marks
    marked = length_positions marks

    degree_Γ : degree F Γ ≡ f
    degree_Γ = degree_is F Γ f (length_locator F X ps) (top_ne_zero F X (pow_ne_zero F a nonzero) ps)

    connection_is : connection_list F (convolution F Γ s) ≡ Λ
    connection_is =
        ap (λ n. connection_list F (some_terms F (d - n) (λ j. product_term F Γ S (n + j)))) degree_Γ
        ∙ connection_terms (d - f) (λ j. product_term F Γ S (f + j)) (folded_syndromes F X ps S d) (λ j l. let c : f + j ≡ j + f = omega arith in ap (product_term F Γ S) c)

    few_located : length Λ + count_true marks ≤ d + 1
    few_located = omega (arith, (shortest F (folded_syndromes F X ps S d) (d - f)).size, register_long F (folded_syndromes F X ps S d) (d - f), marked)

    -- the lists that are written one from the other: the erasures' locator, the folded syndromes and the errors' locator
    module _ {gs ts ks : List A} (e : gs ≡ Γ) (t : ts ≡ convolution F gs s) (k : ks ≡ connection_list F ts) where
      pub errors_are : ks ≡ Λ
      errors_are = k ∙ ap (connection_list F) (t ∙ ap (λ g. convolution F g s) e) ∙ connection_is

      pub few_errors : length ks + count_true marks ≤ d + 1
      few_errors = omega (arith, ap length errors_are, few_located)

      -- the errata locator with ZEROs above, which a cut at a number that is large enough leaves whole
      module _ (cut : ℕ) (large : 18 ≤ cut) where
        within : degree F Λ + degree F Γ ≤ d
        within = omega (arith, degree_below F Λ, degree_Γ, few_located, marked)

        whole_coeff : (n : ℕ) → coeff F (mul_mod_x_d F Λ Γ cut) n ≡ coeff F (errata_locator F X ps S d) n
        whole_coeff = coeff_product F Λ Γ cut (omega (arith, within))

        whole_size : length (mul_mod_x_d F Λ Γ cut) ≡ degree F Λ + degree F Γ + 2
        whole_size = length_tab (min cut (degree F Λ + degree F Γ + 2)) (product_term F Λ (coeff F Γ)) ∙ omega (arith, within)

        module _ {es : List A} (is : es ≡ mul_mod_x_d F ks gs cut) where
          errata_are : es ≡ mul_mod_x_d F Λ Γ cut
          errata_are = is ∙ ap₂ (λ p q. mul_mod_x_d F p q cut) errors_are e

          pub few_errata : length es ≤ d + 2
          few_errata = omega (arith, ap length errata_are, whole_size, within)

          pub values_are : {ws : List A} → ws ≡ mul_mod_x_d F es s d → (x : A) → eval F ws x ≡ eval F (errata_evaluator F X ps S d) x
          values_are w x =
              ap (λ p. eval F p x) (w ∙ ap (λ p. mul_mod_x_d F p s d) errata_are) ∙ eval_product F (mul_mod_x_d F Λ Γ cut) s d x
              ∙ ap (λ q. eval F q x) (tab_same d (product_term F (mul_mod_x_d F Λ Γ cut) S) (product_term F (errata_locator F X ps S d) S)
              (λ n _. times_coeff F (mul_mod_x_d F Λ Γ cut) (errata_locator F X ps S d) S whole_coeff n))

          pub slopes_are : {ds : List A} → ds ≡ formal_derivative F es → (x : A) → eval F ds x ≡ eval F (deriv F (errata_locator F X ps S d)) x
          slopes_are l x =
              ap (λ p. eval F p x) (l ∙ ap (formal_derivative F) errata_are) ∙ eval_derivative F (mul_mod_x_d F Λ Γ cut) x
              ∙ deriv_coeff F (mul_mod_x_d F Λ Γ cut) (errata_locator F X ps S d) x whole_coeff

  -- decoding reads the first d terms of its series only
  module _ {I : Type 0} (X : I → A) (ps : List I) (S T : ℕ → A) (d : ℕ) (same : (j : ℕ) → j < d → S j ≡ T j) where
    pub error_locator_agree : error_locator F X ps S d ≡ error_locator F X ps T d
    error_locator_agree =
        ap (λ st. st.conn) (register_agree F (folded_syndromes F X ps S d) (folded_syndromes F X ps T d) (d - length ps) (
        λ j h. times_agree F (locator F X ps) S T (j + length ps) (λ i k _. same i (omega arith))))

    pub errata_locator_agree : errata_locator F X ps S d ≡ errata_locator F X ps T d
    errata_locator_agree = ap (λ l. poly_mul F l (locator F X ps)) error_locator_agree

    pub errata_evaluator_agree : errata_evaluator F X ps S d ≡ errata_evaluator F X ps T d
    errata_evaluator_agree =
        ap (λ l. tab d (product_term F l S)) errata_locator_agree
        ∙ tab_same d (product_term F (errata_locator F X ps T d) S) (product_term F (errata_locator F X ps T d) T)
        (λ n h. times_agree F (errata_locator F X ps T d) S T n (λ i k _. same i (omega arith)))

  -- so it is the same at the list of these
  module _ {I : Type 0} (X : I → A) (ps : List I) (S : ℕ → A) (d : ℕ) where
    pub error_locator_tab : error_locator F X ps (coeff F (tab d S)) d ≡ error_locator F X ps S d
    error_locator_tab = error_locator_agree X ps (coeff F (tab d S)) S d (coeff_tab F d S)

    pub errata_locator_tab : errata_locator F X ps (coeff F (tab d S)) d ≡ errata_locator F X ps S d
    errata_locator_tab = errata_locator_agree X ps (coeff F (tab d S)) S d (coeff_tab F d S)

    pub errata_evaluator_tab : errata_evaluator F X ps (coeff F (tab d S)) d ≡ errata_evaluator F X ps S d
    errata_evaluator_tab = errata_evaluator_agree X ps (coeff F (tab d S)) S d (coeff_tab F d S)
