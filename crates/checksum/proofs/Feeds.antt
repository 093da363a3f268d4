-- One symbol into the engine's residue, from the lowest power up.
use Rattle.std.proofs.Common.{◌≡◌, ℕ, zero, suc, ◌+◌, ◌-◌, ◌<◌, ◌≤◌, List, [], ◌∷◌, ◌++◌, length, get_or, take, drop, set, replicate, sym, refl, ap, ◌∙◌, ap₂, append_assoc, arith}
use Rattle.std.proofs.lemmas.List.{drop_more, drop_all, drop-set-lt, get_or_append_left, take-append-drop, take_more_set, take-replicate}
use Rattle.algebra.specs.Field.{FieldOn}
use Rattle.algebra.specs.Poly.{coeff, poly_add, poly_scale}
use Rattle.algebra.specs.Code.{modulo, poly_one}

module _ {S : Type 0} (F : FieldOn S) where
  open F use {𝟘, 𝟙, add as ◌⊕◌, mul as ◌⊗◌, neg as ⊖◌}

  infixl 60 ◌⊕◌
  infixl 70 ◌⊗◌
  infix 80 ⊖◌
  pub front_one : (k : ℕ) → 1 ≤ k → k ≤ 16 → take k (𝟙 ∷ replicate 15 𝟘) ≡ poly_one F k
  front_one zero h l = absurd (omega arith)
  front_one (suc n) h l = ap (λ xs. 𝟙 ∷ xs) (take-replicate n 15 𝟘 (omega arith))

  -- each coefficient becomes the one below it and c times the generator's coefficient
  abbrev pub feed : S → S → List S → List S → List S
  feed c below [] gs = []
  feed c below (r ∷ rs) [] = r ∷ rs
  feed c below (r ∷ rs) (g ∷ gs) = (below ⊕ c ⊗ g) ∷ feed c r rs gs

  -- the first n coefficients are done
  abbrev pub fed : S → S → ℕ → List S → List S → List S
  fed c below n rs gs = take n rs ++ feed c below (drop n rs) (drop n gs)

  pub fed_more : (c below : S) (n : ℕ) (rs gs : List S) (r g : S) → n < length rs → n < length gs → r ≡ get_or rs n r → g ≡ coeff F (gs ++ (𝟙 ∷ [])) n
      → fed c r (n + 1) (set rs n (below ⊕ c ⊗ g)) gs ≡ fed c below n rs gs
  fed_more c below n rs gs r g hr hg er eg =
      let w = below ⊕ c ⊗ g in
      let back : drop (n + 1) (set rs n w) ≡ drop (n + 1) rs = drop-set-lt (n + 1) rs n w (omega arith) in
      let cut-r : drop n rs ≡ r ∷ drop (n + 1) rs = drop_more rs n r hr ∙ ap (λ x. x ∷ drop (n + 1) rs) (sym er) in
      let eg2 : g ≡ get_or gs n 𝟘 = eg ∙ get_or_append_left gs (𝟙 ∷ []) 𝟘 n hg in
      let cut-g : drop n gs ≡ g ∷ drop (n + 1) gs = drop_more gs n 𝟘 hg ∙ ap (λ x. x ∷ drop (n + 1) gs) (sym eg2) in
      ap₂ (λ (a b : List S). a ++ feed c r b (drop (n + 1) gs)) (take_more_set rs n w hr) back
      ∙ append_assoc (take n rs) (w ∷ []) (feed c r (drop (n + 1) rs) (drop (n + 1) gs))
      ∙ sym (ap₂ (λ (a b : List S). take n rs ++ feed c below a b) cut-r cut-g)

  feed_none : (c below : S) (rs : List S) → feed c below rs [] ≡ rs
  feed_none c below [] = refl
  feed_none c below (r ∷ rs) = refl

  pub fed_all : (c below : S) (n : ℕ) (rs gs : List S) → length gs ≤ n → fed c below n rs gs ≡ rs
  fed_all c below n rs gs h =
      ap (λ (b : List S). take n rs ++ feed c below (drop n rs) b) (drop_all n gs h)
      ∙ ap (λ (b : List S). take n rs ++ b) (feed_none c below (drop n rs)) ∙ take-append-drop n rs

  feed_is : (c v : S) (r gs : List S) → length r ≡ length gs → feed c v r gs ≡ poly_add F (take (length gs) (v ∷ r)) (poly_scale F c gs)
  feed_is c v [] [] e = refl
  feed_is c v [] (g ∷ gs) e = absurd (omega arith)
  feed_is c v (a ∷ r) [] e = absurd (omega arith)
  feed_is c v (a ∷ r) (g ∷ gs) e = ap (λ xs. (v ⊕ c ⊗ g) ∷ xs) (feed_is c a r gs (omega arith))

  top_is : (v : S) (r : List S) (x : S) → 0 < length r → coeff F (v ∷ r) (length r) ≡ get_or r (length r - 1) x
  top_is v [] x h = absurd (omega arith)
  top_is v (a ∷ []) x h = refl
  top_is v (a ∷ b ∷ r) x h = top_is a (b ∷ r) x (omega arith) ∙ ap (λ (n : ℕ). get_or (a ∷ b ∷ r) n x) (let e : suc (length (b ∷ r) - 1) ≡ length (a ∷ b ∷ r) - 1 = omega arith in e)

  -- the whole step, where x is the top coefficient
  pub feed_modulo : (v x : S) (rs gs : List S) → length rs ≡ length gs → 0 < length rs → x ≡ get_or rs (length rs - 1) x → feed (⊖ x) v rs gs ≡ modulo F gs (v ∷ rs)
  feed_modulo v x rs gs l h e =
      feed_is (⊖ x) v rs gs l
      ∙ ap (λ t. poly_add F (take (length gs) (v ∷ rs)) (poly_scale F (⊖ t) gs)) (e ∙ sym (top_is v rs x h) ∙ ap (coeff F (v ∷ rs)) l)
