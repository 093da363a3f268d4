-- Inverses in GF(1024): the conjugate over the norm.
use Rattle.std.proofs.Common.{◌≡◌, [], ◌∷◌, refl, ap, ◌∙◌}
use Rattle.algebra.specs.Pair.{pair_mul}
use Rattle.algebra.proofs.Solver.{:0, :1, ◌:+◌, ◌:*◌, :-◌, ◌:-◌, v0, v1, v2, solve}
use Rattle.algebra.proofs.Quadratic.{solve₂, norm_ne_zero}
use Rattle.fields.specs.Gf32.{gf32}
use Rattle.fields.specs.declared.gf32.Fe32.{Fe32}
use Rattle.fields.specs.Laws.Irreducible.{no_square}
use Rattle.fields.specs.Gf1024.{gf1024, fe1024, pair}
use Rattle.fields.specs.declared.gf1024.Fe1024.{Fe1024}
open gf32 use {𝟘, 𝟙, add as ◌⊕◌, mul as ◌⊗◌, neg as ⊖◌}

infixl 60 ◌⊕◌
infixl 70 ◌⊗◌
infix 80 ⊖◌
abbrev pub norm : Fe1024 → Fe32
norm x = x.c0 ⊗ (x.c0 ⊕ x.c1) ⊕ ⊖ (x.c1 ⊗ x.c1)

pub norm_zero : (x : Fe1024) → norm x ≡ 𝟘 → x ≡ gf1024.𝟘
unfolding gf1024
norm_zero x e = elim (gf1024.dec_eq x gf1024.𝟘) [ yes z ↦ z | no z ↦ absurd (norm_ne_zero gf32 𝟙 𝟙 no_square (pair x) (λ z'. z (ap (λ p. fe1024 p.c0 p.c1) z')) (same ∙ e)) ]
  where
    same : x.c0 ⊗ x.c0 ⊕ 𝟙 ⊗ (x.c0 ⊗ x.c1) ⊕ ⊖ (𝟙 ⊗ (x.c1 ⊗ x.c1)) ≡ norm x
    same = solve gf32 (x.c0 ∷ x.c1 ∷ []) (v0 :* v0 :+ :1 :* (v0 :* v1) :- :1 :* (v1 :* v1)) (v0 :* (v0 :+ v1) :- v1 :* v1) refl

pub times_conjugate : (x : Fe1024) (k : Fe32) → norm x ⊗ k ≡ 𝟙 → gf1024.mul x (fe1024 ((x.c0 ⊕ x.c1) ⊗ k) (⊖ x.c1 ⊗ k)) ≡ gf1024.𝟙
unfolding gf1024
times_conjugate x k e =
    ap (λ p. fe1024 p.c0 p.c1)
    (solve₂ gf32 𝟙 𝟙 (x.c0 ∷ x.c1 ∷ k ∷ [])
    (pair_mul ◌:+◌ ◌:*◌ :1 :1 (record { c0 = v0; c1 = v1 }) (record { c0 = (v0 :+ v1) :* v2; c1 = (:- v1) :* v2 }))
    (record { c0 = (v0 :* (v0 :+ v1) :- v1 :* v1) :* v2; c1 = :0 }) refl refl)
    ∙ ap (λ t. fe1024 t 𝟘) e
