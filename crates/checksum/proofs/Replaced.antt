-- A list whose entries are replaced one by one, from the front: the first i are new.
use Rattle.std.proofs.Common.{◌≡◌, ℕ, ◌+◌, ◌<◌, ◌≤◌, List, [], ◌∷◌, ◌++◌, map, length, get_or, take, drop, set, sym, refl, ap, ◌∙◌, ap₂, append-nil, append_assoc, arith}
use Rattle.std.proofs.lemmas.List.{drop_more, take_more, length-take-le, set_at, get_or_at, take_all, drop_all, get_or_default, length-map, get_or-map}
use Rattle.algebra.specs.Field.{FieldOn}
use Rattle.algebra.specs.Poly.{coeff, poly_sub}
use Rattle.algebra.proofs.Laws.{neg_neg, neg_add_dist}
use Rattle.algebra.proofs.Poly.{coeff_poly_sub}

module _ {X : Type 0} (new old : List X) (long : length new ≡ length old) where
  pub replaced_read : (i : ℕ) (d : X) → i < length old → get_or (take i new ++ drop i old) i d ≡ get_or old i d
  replaced_read i d h =
      ap (λ xs. get_or (take i new ++ xs) i d) (drop_more old i d h)
      ∙ get_or_at (take i new) (get_or old i d) (drop (i + 1) old) d i (length-take-le i new (omega arith))

  pub replaced_more : (i : ℕ) (x : X) → i < length old → x ≡ get_or new i x → set (take i new ++ drop i old) i x ≡ take (i + 1) new ++ drop (i + 1) old
  replaced_more i x h e =
      let left = drop (i + 1) old in
      ap (λ xs. set (take i new ++ xs) i x) (drop_more old i x h)
      ∙ set_at (take i new) (get_or old i x) left x i (length-take-le i new (omega arith))
      ∙ sym (append_assoc (take i new) (x ∷ []) left)
      ∙ ap (λ xs. xs ++ left) (ap (λ y. take i new ++ y ∷ []) e ∙ sym (take_more new i x (omega arith)))

  pub replaced_all : (i : ℕ) → length old ≤ i → take i new ++ drop i old ≡ new
  replaced_all i h = ap₂ (λ xs ys. xs ++ ys) (take_all i new (omega arith)) (drop_all i old h) ∙ append-nil new

-- where a difference of polynomials takes the place of a list
module _ {S : Type 0} (F : FieldOn S) (p q old : List S) (long : length (poly_sub F p q) ≡ length old) (i : ℕ) (here : i < length old) (now : List S) (so_far : now ≡ take i (poly_sub F p q) ++ drop i old) where
  pub coeff_left : (d : S) → get_or now i d ≡ coeff F old i
  coeff_left d = ap (λ xs. get_or xs i d) so_far ∙ replaced_read (poly_sub F p q) old long i d here ∙ get_or_default old i d F.𝟘 here

  pub difference_more : (w a b : S) → w ≡ F.add a (F.neg b) → a ≡ coeff F p i → b ≡ coeff F q i → set now i w ≡ take (i + 1) (poly_sub F p q) ++ drop (i + 1) old
  difference_more w a b e ea eb =
      let is_w : w ≡ coeff F (poly_sub F p q) i = e ∙ ap₂ (λ x y. F.add x (F.neg y)) ea eb ∙ sym (coeff_poly_sub F p q i) in
      ap (λ xs. set xs i w) so_far
      ∙ replaced_more (poly_sub F p q) old long i w here (is_w ∙ get_or_default (poly_sub F p q) i F.𝟘 w (omega arith))

module _ {S : Type 0} (F : FieldOn S) where
  pub neg_poly_sub : (p q : List S) → length p ≡ length q → map F.neg (poly_sub F p q) ≡ poly_sub F q p
  neg_poly_sub [] [] e = refl
  neg_poly_sub [] (b ∷ q) e = absurd (omega arith)
  neg_poly_sub (a ∷ p) [] e = absurd (omega arith)
  neg_poly_sub (a ∷ p) (b ∷ q) e = ap₂ ◌∷◌ (neg_add_dist F a (F.neg b) ∙ ap (F.add (F.neg a)) (neg_neg F b) ∙ F.add_comm (F.neg a) b) (neg_poly_sub p q (omega arith))

-- where a list's entries are mapped one by one
module _ {X : Type 0} (f : X → X) (old : List X) (i : ℕ) (here : i < length old) (now : List X) (so_far : now ≡ take i (map f old) ++ drop i old) where
  pub mapped_more : (d w : X) → w ≡ f (get_or now i d) → set now i w ≡ take (i + 1) (map f old) ++ drop (i + 1) old
  mapped_more d w e =
      let long = length-map old f in
      let read : get_or now i d ≡ get_or old i d = ap (λ xs. get_or xs i d) so_far ∙ replaced_read (map f old) old long i d here in
      ap (λ xs. set xs i w) so_far
      ∙ replaced_more (map f old) old long i w here (e ∙ ap f read ∙ sym (get_or-map f old i d w here))
