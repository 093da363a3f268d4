-- The degree of a list, by what a search from its end finds.
use Rattle.std.proofs.Common.{◌≡◌, ℕ, zero, suc, ◌-◌, ◌<◌, ◌≤◌, Bool, true, false, Decides, List, [], ◌∷◌, length, Option, None, Some, MatchOption, unwrap_or, sym, refl, ap, ◌∙◌, inl, inr, arith}
use Rattle.std.proofs.lemmas.Bool.{cases_lt, false≢true}
use Rattle.std.proofs.lemmas.Option.{slice_get-get_or}
use Rattle.std.specs.List.{slice_get}
use Rattle.std.specs.Option.{ok_or}
use Rattle.algebra.specs.Field.{FieldOn, multiple}
use Rattle.algebra.specs.Poly.{coeff}
use Rattle.algebra.proofs.Poly.{coeff_high}
use Rattle.algebra.proofs.Tab.{length_tab}
use Rattle.lists.specs.Faults.{unless_empty}
use Rattle.lists.specs.declared.fault.ListFault.TheVariants.{Empty}
use Rattle.lists.proofs.Filled.{asked_some}
use Rattle.lists.specs.Lists.{highest, degree, leading_term, formal_derivative}

module _ {A : Type 0} (F : FieldOn A) (p : List A) where
  highest_zero : (n : ℕ) → coeff F p (suc n) ≡ F.𝟘 → highest F p (suc n) ≡ highest F p n
  highest_zero n e = by (F.dec_eq (coeff F p (suc n)) F.𝟘)
    where
      by : (d : Dec (coeff F p (suc n) ≡ F.𝟘)) → elim d [ yes _ ↦ highest F p n | no _ ↦ suc n ] ≡ highest F p n
      by (yes _) = refl
      by (no h) = absurd (h e)

  highest_other : (n : ℕ) → ¬ (coeff F p (suc n) ≡ F.𝟘) → highest F p (suc n) ≡ suc n
  highest_other n h = by (F.dec_eq (coeff F p (suc n)) F.𝟘)
    where
      by : (d : Dec (coeff F p (suc n) ≡ F.𝟘)) → elim d [ yes _ ↦ highest F p n | no _ ↦ suc n ] ≡ suc n
      by (yes e) = absurd (h e)
      by (no _) = refl

  -- no power above i has a coefficient that is not ZERO, and i has one unless it is 0
  highest_is : (n i : ℕ) → i ≤ n → (0 < i → ¬ (coeff F p i ≡ F.𝟘)) → ((k : ℕ) → i < k → coeff F p k ≡ F.𝟘) → i ≡ highest F p n
  highest_is zero i h top above = omega arith
  highest_is (suc n) i h top above = elim (cases_lt i (suc n)) [
    | inl l ↦ highest_is n i (omega arith) top above ∙ sym (highest_zero n (above (suc n) l))
    | inr g ↦ let e : i ≡ suc n = omega arith in e ∙ sym (highest_other n (λ z. top (omega arith) (ap (coeff F p) e ∙ z)))
  ]

  highest_below : (n : ℕ) → highest F p n ≤ length p - 1
  highest_below zero = omega arith
  highest_below (suc n) = by (F.dec_eq (coeff F p (suc n)) F.𝟘) (highest_below n)
    where
      by : (d : Dec (coeff F p (suc n) ≡ F.𝟘)) → highest F p n ≤ length p - 1 → elim d [ yes _ ↦ highest F p n | no _ ↦ suc n ] ≤ length p - 1
      by (yes _) h = h
      by (no z) h = elim (cases_lt (suc n) (length p)) [ inl l ↦ omega arith | inr g ↦ absurd (z (coeff_high F p (suc n) g)) ]

  pub degree_below : degree F p ≤ length p - 1
  degree_below = highest_below (length p)

  -- what a search from the end for an entry other than ZERO finds
  module _ (zeroes : A → Bool) (is : (a : A) → Decides (zeroes a) (a ≡ F.𝟘)) where
    pub degree_found : (r : Option ℕ)
        → MatchOption r ((k : ℕ) → k < length p → zeroes (coeff F p k) ≡ true)
        (λ i. (i < length p) × (zeroes (coeff F p i) ≡ false) × ((k : ℕ) → i < k → k < length p → zeroes (coeff F p k) ≡ true))
        → unwrap_or r 0 ≡ degree F p
    degree_found None none = highest_is (length p) 0 (omega arith) (λ h. absurd (omega arith)) (λ k _. elim (cases_lt k (length p)) [
      | inl l ↦ (is (coeff F p k)).0 (none k l)
      | inr g ↦ coeff_high F p k g
    ])
    degree_found (Some i) (inside, other, above) = highest_is (length p) i (omega arith) (λ _ z. false≢true (sym other ∙ (is (coeff F p i)).1 z)) (λ k h. elim (cases_lt k (length p)) [
      | inl l ↦ (is (coeff F p k)).0 (above k h l)
      | inr g ↦ coeff_high F p k g
    ])

module _ {A : Type 0} (F : FieldOn A) (p : List A) where
  -- an entry of the derivative
  abbrev pub derived : ℕ → A
  derived i = multiple F (coeff F p (suc i)) (suc i)

  pub length_derivative : degree F p ≡ length (formal_derivative F p)
  length_derivative = sym (length_tab (degree F p) derived)

-- the entry at the degree, which only the empty list lacks
pub leading_found : {A : Type 0} (F : FieldOn A) (p : List A) → ok_or (slice_get p (degree F p)) Empty ≡ unless_empty (length p) (leading_term F p)
leading_found F [] = refl
leading_found F (a ∷ p) =
    let below = degree_below F (a ∷ p) in
    ap (λ o. ok_or o Empty) (slice_get-get_or (a ∷ p) (degree F (a ∷ p)) F.𝟘 (omega arith)) ∙ asked_some (length (a ∷ p)) (leading_term F (a ∷ p)) (omega arith)
