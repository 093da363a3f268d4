-- A list times 1 - x z, worked out in place from its front, and one entry more for the top.
use Rattle.std.proofs.Common.{◌≡◌, ℕ, ◌+◌, ◌<◌, ◌≤◌, List, [], ◌∷◌, ◌++◌, length, get_or, set, sym, ap, ◌∙◌, ap₂, add-one, append-nil, arith}
use Rattle.std.proofs.lemmas.List.{drop_all, get_or_default}
use Rattle.algebra.specs.Field.{FieldOn}
use Rattle.algebra.specs.Poly.{coeff, tab}
use Rattle.algebra.specs.Series.{shift, times_linear}
use Rattle.algebra.proofs.Laws.{neg_mul}
use Rattle.algebra.proofs.Linear.{length_lin, coeff_lin}
use Rattle.algebra.proofs.Poly.{coeff_high}
use Rattle.algebra.proofs.Tab.{tab_coeff}
use Rattle.lists.proofs.Filled.{Filled, filled_more, filled_read, tab_more}

module _ {A : Type 0} (F : FieldOn A) (x : A) (e : List A) where
  abbrev product : ℕ → A
  product = coeff F (times_linear F x e)

  -- the first i entries of the product are in, and `below` is the list's own entry before i
  pub record Turned (i : ℕ) (below : A) (w : List A) : Type 0 where
    pub filled : Filled product i e w
    pub carried : below ≡ shift F (coeff F e) i

module _ {A : Type 0} {F : FieldOn A} {x : A} {e : List A} {i : ℕ} {below : A} {w : List A} (h : Turned F x e i below w) where
  open F use {𝟘, add as ◌⊕◌, mul as ◌⊗◌, neg as ⊖◌}

  infixl 60 ◌⊕◌
  infixl 70 ◌⊗◌
  infix 80 ⊖◌
  -- the next entry of the product, from the list's own
  value : {own m y : A} → own ≡ coeff F e i → m ≡ x ⊗ below → y ≡ own ⊕ ⊖ m → y ≡ product F x e i
  value eo em ey =
      ey ∙ ap₂ (λ u v. u ⊕ ⊖ v) eo (em ∙ ap (λ v. x ⊗ v) h.carried)
      ∙ ap (λ u. coeff F e i ⊕ u) (sym (neg_mul F x (shift F (coeff F e) i))) ∙ sym (coeff_lin F x e i)

  pub turned_more : {read m y : A} → i < length e → read ≡ get_or w i read → m ≡ x ⊗ below → y ≡ get_or w i read ⊕ ⊖ m → Turned F x e (i + 1) (get_or w i read) (set w i y)
  turned_more {read} {m} {y} within er em ey =
      let own : get_or w i read ≡ coeff F e i = filled_read (product F x e) e i w h.filled i read (omega arith) ∙ get_or_default e i read 𝟘 within in
      record {
        filled = filled_more (product F x e) e i w h.filled y within (value own em ey);
        carried = own ∙ ap (shift F (coeff F e)) (sym (add-one i));
      }

  pub turned_all : {own m y : A} → length e ≤ i → i ≤ length e → own ≡ 𝟘 → m ≡ x ⊗ below → y ≡ own ⊕ ⊖ m → w ++ (y ∷ []) ≡ times_linear F x e
  turned_all {own} {m} {y} past within eo em ey =
      let none : own ≡ coeff F e i = eo ∙ sym (coeff_high F e i past) in
      let full : w ≡ tab i (product F x e) = h.filled.is ∙ ap (λ r. tab i (product F x e) ++ r) (drop_all i e past) ∙ append-nil (tab i (product F x e)) in
      let long : i + 1 ≡ length (times_linear F x e) = omega (arith, length_lin F x e) in
      ap₂ (λ u v. u ++ (v ∷ [])) full (value none em ey) ∙ sym (tab_more i (product F x e)) ∙ ap (λ n. tab n (product F x e)) long ∙ tab_coeff F (times_linear F x e)
