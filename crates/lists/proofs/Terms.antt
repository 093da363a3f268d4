-- A term of a product as a loop sums it up.
use Rattle.std.proofs.Common.{◌≡◌, ℕ, zero, suc, ◌+◌, ◌<◌, ◌≤◌, List, [], ◌∷◌, length, get_or, take, sym, refl, ap, ◌∙◌, ap₂, add-one, arith}
use Rattle.std.proofs.lemmas.List.{get_or_default}
use Rattle.algebra.specs.Field.{FieldOn}
use Rattle.algebra.specs.Poly.{coeff}
use Rattle.algebra.specs.Series.{product_term}
use Rattle.algebra.proofs.Laws.{add_zero, mul_zero}
use Rattle.algebra.proofs.Poly.{coeff_high}
use Rattle.algebra.proofs.Series.{shift_zero}

module _ {A : Type 0} (F : FieldOn A) where
  open F use {𝟘, add as ◌⊕◌, mul as ◌⊗◌, add_assoc, add_comm}

  infixl 60 ◌⊕◌
  infixl 70 ◌⊗◌
  -- one coefficient more
  times_more : (c : List A) (g : ℕ → A) (n i rest : ℕ) → i < length c → i + rest ≡ n → product_term F (take (i + 1) c) g n ≡ product_term F (take i c) g n ⊕ coeff F c i ⊗ g rest
  times_more c g n i rest h k = ap (λ m. product_term F (take m c) g n) (add-one i) ∙ go c n i h k
    where
      go : (c : List A) (n i : ℕ) → i < length c → i + rest ≡ n → product_term F (take (suc i) c) g n ≡ product_term F (take i c) g n ⊕ coeff F c i ⊗ g rest
      go [] n i h k = absurd (omega arith)
      go (a ∷ c) n zero h k =
          let e : n ≡ rest = omega arith in
          ap (λ t. a ⊗ g n ⊕ t) (shift_zero F n) ∙ add_comm (a ⊗ g n) 𝟘 ∙ ap (λ m. 𝟘 ⊕ a ⊗ g m) e
      go (a ∷ c) zero (suc i) h k = absurd (omega arith)
      go (a ∷ c) (suc n) (suc i) h k = ap (λ t. a ⊗ g (suc n) ⊕ t) (go c n i (omega arith) (omega arith)) ∙ sym (add_assoc _ _ _)

  -- coefficients past n are not read
  pub times_cut : (c : List A) (g : ℕ → A) (n i : ℕ) → n < i → product_term F (take i c) g n ≡ product_term F c g n
  times_cut [] g n zero h = refl
  times_cut [] g n (suc i) h = refl
  times_cut (a ∷ c) g n zero h = absurd (omega arith)
  times_cut (a ∷ c) g zero (suc i) h = refl
  times_cut (a ∷ c) g (suc n) (suc i) h = ap (λ t. a ⊗ g (suc n) ⊕ t) (times_cut c g n i (omega arith))

  module _ (p q : List A) (n i rest : ℕ) (sum : A) (inv : sum ≡ product_term F (take i p) (coeff F q) n) (h : i < length p) (k : i + rest ≡ n) where
    pub term_more : (a b new : A) → rest < length q → a ≡ get_or p i a → b ≡ get_or q rest b → new ≡ sum ⊕ a ⊗ b → new ≡ product_term F (take (i + 1) p) (coeff F q) n
    term_more a b new l ea eb en =
        en ∙ ap₂ ◌⊕◌ inv (ap₂ ◌⊗◌ (ea ∙ get_or_default p i a 𝟘 h) (eb ∙ get_or_default q rest b 𝟘 l)) ∙ sym (times_more p (coeff F q) n i rest h k)

    pub term_past : length q ≤ rest → sum ≡ product_term F (take (i + 1) p) (coeff F q) n
    term_past l =
        sym (times_more p (coeff F q) n i rest h k ∙ ap (λ t. product_term F (take i p) (coeff F q) n ⊕ coeff F p i ⊗ t) (coeff_high F q rest l)
        ∙ ap (λ t. product_term F (take i p) (coeff F q) n ⊕ t) (mul_zero F (coeff F p i)) ∙ add_zero F (product_term F (take i p) (coeff F q) n) ∙ sym inv)
