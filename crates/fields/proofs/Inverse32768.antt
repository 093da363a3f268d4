-- Inverses in GF(32768): cofactors over the determinant.
use Rattle.std.proofs.Common.{◌≡◌, ap, ◌∙◌}
use Rattle.algebra.proofs.CubicInverse.{times_cofactors, determinant_ne_zero}
use Rattle.fields.specs.Gf32.{gf32}
use Rattle.fields.specs.declared.gf32.Fe32.{Fe32}
use Rattle.fields.specs.Laws.Irreducible.{no_cube}
use Rattle.fields.specs.Gf32768.{gf32768, fe32768, triple}
use Rattle.fields.specs.declared.gf32768.Fe32768.{Fe32768}
open gf32 use {𝟘, 𝟙, add as ◌⊕◌, mul as ◌⊗◌, neg as ⊖◌}

infixl 60 ◌⊕◌
infixl 70 ◌⊗◌
infix 80 ⊖◌
abbrev pub first : Fe32768 → Fe32
first x = let s = x.c0 ⊕ x.c2 in s ⊗ s ⊕ ⊖ (x.c1 ⊗ (x.c1 ⊕ x.c2))

abbrev pub second : Fe32768 → Fe32
second x = x.c2 ⊗ x.c2 ⊕ ⊖ (x.c0 ⊗ x.c1)

abbrev pub third : Fe32768 → Fe32
third x = x.c1 ⊗ x.c1 ⊕ ⊖ (x.c2 ⊗ (x.c0 ⊕ x.c2))

abbrev pub determinant : Fe32768 → Fe32
determinant x = x.c0 ⊗ first x ⊕ x.c2 ⊗ second x ⊕ x.c1 ⊗ third x

pub determinant_zero : (x : Fe32768) → determinant x ≡ 𝟘 → x ≡ gf32768.𝟘
unfolding gf32768
determinant_zero x e = elim (gf32768.dec_eq x gf32768.𝟘) [ yes z ↦ z | no z ↦ absurd (determinant_ne_zero gf32 no_cube (triple x) (λ z'. z (ap (λ t. fe32768 t.c0 t.c1 t.c2) z')) e) ]

pub times_cofactors_is_one : (x : Fe32768) (k : Fe32) → determinant x ⊗ k ≡ 𝟙 → gf32768.mul x (fe32768 (first x ⊗ k) (second x ⊗ k) (third x ⊗ k)) ≡ gf32768.𝟙
unfolding gf32768
times_cofactors_is_one x k e =
    ap (λ t. fe32768 t.c0 t.c1 t.c2) (times_cofactors gf32 (triple x) k) ∙ ap (λ t. fe32768 t 𝟘 𝟘) e
