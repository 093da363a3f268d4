-- Equations of triples by the solver; every triple but ZERO has an inverse, by division in the field below.
use Rattle.std.proofs.Common.{◌≡◌, List, [], ◌∷◌, sym, refl, ap, ◌∙◌, ap₂}
use Rattle.algebra.specs.Field.{FieldOn}
use Rattle.algebra.specs.Triple.{Triple, each, triple_add, triple_mul}
use Rattle.algebra.proofs.Laws.{mul_one, mul_ne_zero, sub_zero}
use Rattle.algebra.proofs.Solver.{normal, value, Expr, var, :0, :1, ◌:+◌, ◌:*◌, :-◌, ◌:-◌, v0, v1, v2, v3, v4, v5, v6, v7, solve}

abbrev pub mk : {A : Type 0} → A → A → A → Triple A
mk a b c = record { c0 = a; c1 = b; c2 = c }

abbrev pub x : Triple Expr
x = mk v0 v1 v2

abbrev pub y : Triple Expr
y = mk v3 v4 v5

abbrev pub z : Triple Expr
z = mk v6 v7 (var 8)

abbrev pub ◌+E◌ : Triple Expr → Triple Expr → Triple Expr
◌+E◌ = triple_add ◌:+◌ ◌:*◌

abbrev pub ◌*E◌ : Triple Expr → Triple Expr → Triple Expr
◌*E◌ = triple_mul ◌:+◌ ◌:*◌

infixl 60 ◌+E◌
infixl 70 ◌*E◌
module _ {A : Type 0} (F : FieldOn A) where
  open F use {𝟘, 𝟙, add as ◌⊕◌, mul as ◌⊗◌, neg as ⊖◌, inv, mul_inv, dec_eq, mul_comm, mul_assoc, one_ne_zero}

  infixl 60 ◌⊕◌
  infixl 70 ◌⊗◌
  infix 80 ⊖◌
  pub solve₃ : (ρ : List A) (a b : Triple Expr) → normal a.c0 ≡ normal b.c0 → normal a.c1 ≡ normal b.c1 → normal a.c2 ≡ normal b.c2
      → each (value F ρ) a ≡ each (value F ρ) b
  solve₃ ρ a b p q r = λ i. record { c0 = solve F ρ a.c0 b.c0 p i; c1 = solve F ρ a.c1 b.c1 q i; c2 = solve F ρ a.c2 b.c2 r i }

  abbrev pub env : Triple A → Triple A → Triple A → List A
  env a b c = a.c0 ∷ a.c1 ∷ a.c2 ∷ b.c0 ∷ b.c1 ∷ b.c2 ∷ c.c0 ∷ c.c1 ∷ c.c2 ∷ []

  abbrev ◌*T◌ : Triple A → Triple A → Triple A
  ◌*T◌ = triple_mul ◌⊕◌ ◌⊗◌

  infixl 70 ◌*T◌
  pub triple_mul_assoc : (a b c : Triple A) → a *T b *T c ≡ a *T (b *T c)
  triple_mul_assoc a b c = solve₃ (env a b c) (x *E y *E z) (x *E (y *E z)) refl refl refl

  pub triple_mul_comm : (a b : Triple A) → a *T b ≡ b *T a
  triple_mul_comm a b = solve₃ (env a b b) (x *E y) (y *E x) refl refl refl

  -- with r = - v / u, v + u ζ is u (ζ - r), and (ζ - r)(ζ² + r ζ + r² - 1) = 1 + r - r³
  abbrev slope : A → A → A
  slope v u = ⊖ (v ⊗ inv u)

  abbrev gap : A → A
  gap r = 𝟙 ⊕ r ⊕ ⊖ (r ⊗ r ⊗ r)

  -- the inverse of v + u ζ
  linear_inverse : (v u : A) → Dec (u ≡ 𝟘) → Triple A
  linear_inverse v u (yes e) = mk (inv v) 𝟘 𝟘
  linear_inverse v u (no e) = let r = slope v u in let t = inv (u ⊗ gap r) in mk ((r ⊗ r ⊕ ⊖ 𝟙) ⊗ t) (r ⊗ t) t

  -- a = a2 m with m = ζ² + p ζ + q, and (ζ - p) m = (1 - p q) + (1 + q - p²) ζ
  pub inverse_by_division : (a : Triple A) → Dec (a.c2 ≡ 𝟘) → Triple A
  inverse_by_division a (yes e) = linear_inverse a.c0 a.c1 (dec_eq a.c1 𝟘)
  inverse_by_division a (no e) =
      let w = inv a.c2 in
      let p = a.c1 ⊗ w in
      let q = a.c0 ⊗ w in
      let u = 𝟙 ⊕ q ⊕ ⊖ (p ⊗ p) in
      triple_mul ◌⊕◌ ◌⊗◌ (mk (⊖ p ⊗ w) w 𝟘) (linear_inverse (𝟙 ⊕ ⊖ (p ⊗ q)) u (dec_eq u 𝟘))

  module _ (irreducible : (r : A) → ¬ (r ⊗ r ⊗ r ≡ r ⊕ 𝟙)) where
    gap_ne : (r : A) → ¬ (gap r ≡ 𝟘)
    gap_ne r e = irreducible r (sym (sub_zero F (r ⊕ 𝟙) (r ⊗ r ⊗ r) (solve F (r ∷ []) (v0 :+ :1 :- v0 :* v0 :* v0) (:1 :+ v0 :- v0 :* v0 :* v0) refl ∙ e)))

    linear_is : (v u : A) (d : Dec (u ≡ 𝟘)) → (u ≡ 𝟘 → ¬ (v ≡ 𝟘)) → mk v u 𝟘 *T linear_inverse v u d ≡ mk 𝟙 𝟘 𝟘
    unfolding linear_inverse
    linear_is v u (yes e) h =
        ap (λ t. mk v t 𝟘 *T mk (inv v) 𝟘 𝟘) e
        ∙ solve₃ (v ∷ inv v ∷ []) (mk v0 :0 :0 *E mk v1 :0 :0) (mk (v0 :* v1) :0 :0) refl refl refl
        ∙ ap (λ t. mk t 𝟘 𝟘) (mul_inv v (h e))
    linear_is v u (no e) h =
        let r = slope v u in
        let t = inv (u ⊗ gap r) in
        let v-is : v ≡ ⊖ (u ⊗ r)
        = sym (mul_one F v) ∙ ap (λ k. v ⊗ k) (sym (mul_inv u e)) ∙ solve F (v ∷ u ∷ inv u ∷ []) (v0 :* (v1 :* v2)) (:- (v1 :* (:- (v0 :* v2)))) refl in
        ap (λ k. mk k u 𝟘 *T mk ((r ⊗ r ⊕ ⊖ 𝟙) ⊗ t) (r ⊗ t) t) v-is
        ∙ solve₃ (u ∷ r ∷ t ∷ []) (mk (:- (v0 :* v1)) v0 :0 *E mk ((v1 :* v1 :- :1) :* v2) (v1 :* v2) v2) (mk ((v0 :* (:1 :+ v1 :- v1 :* v1 :* v1)) :* v2) :0 :0) refl refl refl
        ∙ ap (λ k. mk k 𝟘 𝟘) (mul_inv (u ⊗ gap r) (mul_ne_zero F u (gap r) e (gap_ne r)))

    pub inverse_is : (a : Triple A) (d : Dec (a.c2 ≡ 𝟘)) → ¬ (a ≡ mk 𝟘 𝟘 𝟘) → a *T inverse_by_division a d ≡ mk 𝟙 𝟘 𝟘
    unfolding inverse_by_division
    inverse_is a (yes e) h =
        ap (λ t. mk a.c0 a.c1 t *T linear_inverse a.c0 a.c1 (dec_eq a.c1 𝟘)) e
        ∙ linear_is a.c0 a.c1 (dec_eq a.c1 𝟘) (λ f g. h (λ i. record { c0 = g i; c1 = f i; c2 = e i }))
    inverse_is a (no e) h =
        let w = inv a.c2 in
        let p = a.c1 ⊗ w in
        let q = a.c0 ⊗ w in
        let u = 𝟙 ⊕ q ⊕ ⊖ (p ⊗ p) in
        let v = 𝟙 ⊕ ⊖ (p ⊗ q) in
        let l = linear_inverse v u (dec_eq u 𝟘) in
        let first : a *T mk (⊖ p ⊗ w) w 𝟘 ≡ mk v u 𝟘
        = solve₃ (a.c0 ∷ a.c1 ∷ a.c2 ∷ w ∷ []) (x *E mk ((:- (v1 :* v3)) :* v3) v3 :0)
        (mk (v2 :* v3 :- (v1 :* v3) :* (v0 :* v3)) (v2 :* v3 :+ v0 :* v3 :- (v1 :* v3) :* (v1 :* v3)) ((v1 :* v3) :* (:1 :- v2 :* v3))) refl refl refl
        ∙ ap (λ t. mk (t ⊕ ⊖ (p ⊗ q)) (t ⊕ q ⊕ ⊖ (p ⊗ p)) (p ⊗ (𝟙 ⊕ ⊖ t))) (mul_inv a.c2 e)
        ∙ ap (λ t. mk v u t) (solve F (p ∷ []) (v0 :* (:1 :- :1)) :0 refl) in
        -- u = 0 and v = 0 would make p a root
        let apart : u ≡ 𝟘 → ¬ (v ≡ 𝟘) = λ eu ev. irreducible p (sub_zero F _ _ (
        solve F (p ∷ q ∷ []) (v0 :* v0 :* v0 :- (v0 :+ :1)) (:- (v0 :* (:1 :+ v1 :- v0 :* v0)) :- (:1 :- v0 :* v1)) refl
        ∙ ap₂ (λ s t. ⊖ (p ⊗ s) ⊕ ⊖ t) eu ev ∙ solve F (p ∷ []) (:- (v0 :* :0) :- :0) :0 refl)) in
        sym (triple_mul_assoc a (mk (⊖ p ⊗ w) w 𝟘) l) ∙ ap (λ t. t *T l) first ∙ linear_is v u (dec_eq u 𝟘) apart
