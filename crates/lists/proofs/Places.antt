-- Sums and differences entry by entry.
use Rattle.std.proofs.Common.{◌≡◌, ℕ, max, List, [], ◌∷◌, map, length, sym, refl, ap, ◌∙◌}
use Rattle.std.proofs.lemmas.List.{length-map}
use Rattle.algebra.specs.Field.{FieldOn}
use Rattle.algebra.specs.Poly.{tab, coeff, poly_add, poly_sub}
use Rattle.algebra.proofs.Poly.{length_poly_add_max, coeff_poly_add, coeff_poly_sub}
use Rattle.algebra.proofs.Tab.{length_tab, tab_same, tab_coeff}
use Rattle.lists.specs.Steps.Combined.{by_entries}

module _ {A : Type 0} (F : FieldOn A) where
  -- a list from its coefficients
  pub tab_of : (p : List A) (n : ℕ) (f : ℕ → A) → n ≡ length p → ((i : ℕ) → f i ≡ coeff F p i) → tab n f ≡ p
  tab_of p n f e h = tab_same n f (coeff F p) (λ i _. h i) ∙ ap (λ m. tab m (coeff F p)) e ∙ tab_coeff F p

  pub length_by_entries : (h : A → A → A) (p q : List A) → length (by_entries F h p q) ≡ max (length p) (length q)
  length_by_entries h p q = length_tab (max (length p) (length q)) (λ i. h (coeff F p i) (coeff F q i))

  pub by_entries_add : (p q : List A) → by_entries F F.add p q ≡ poly_add F p q
  by_entries_add p q = tab_of (poly_add F p q) _ _ (sym (length_poly_add_max F p q)) (λ i. sym (coeff_poly_add F p q i))

  abbrev pub less : A → A → A
  less x y = F.add x (F.neg y)

  pub by_entries_sub : (p q : List A) → by_entries F less p q ≡ poly_sub F p q
  by_entries_sub p q =
      let size : length (poly_sub F p q) ≡ max (length p) (length q) = length_poly_add_max F p (map (λ a. F.neg a) q) ∙ ap (max (length p)) (length-map q (λ a. F.neg a)) in
      tab_of (poly_sub F p q) _ _ (sym size) (λ i. sym (coeff_poly_sub F p q i))

-- a list lifted entry by entry
pub tab_map : {B A : Type 0} (b : FieldOn B) (up : B → A) (p : List B) (n : ℕ) → n ≡ length p → tab n (λ i. up (coeff b p i)) ≡ map up p
tab_map {B = B} {A = A} b up p n e = ap (λ m. tab m (λ i. up (coeff b p i))) e ∙ go p
  where
    go : (p : List B) → tab (length p) (λ i. up (coeff b p i)) ≡ map up p
    go [] = refl
    go (x ∷ p) = ap (λ t. up x ∷ t) (go p)
