-- The first piece of a line is at its front, and what follows has the others.
use Rattle.std.proofs.Common.{◌≡◌, ℕ, suc, ◌+◌, Bool, true, false, eqb, List, [], ◌∷◌, ◌++◌, length, take, drop, sym, refl, ap, ◌∙◌, subst, append_assoc, append-nil, arith}
use Rattle.std.proofs.lemmas.Bool.{both_ways, eqb-true, eq-eqb, ne_eqb, or_from}
use Rattle.std.proofs.lemmas.List.{length_push, nil_from_length}
use Rattle.sheet.specs.Pieces.{Part, group, remark, with_group_before, pieces_after, pieces_from, leading_spaces, ends_group, leading_group}

-- a byte that is a space is no slash
no_slash : (byte : ℕ) → eqb byte 32 ≡ true → eqb byte 47 ≡ false
no_slash byte s = let e = eqb-true byte 32 s in ne_eqb byte 47 (λ f. omega arith)

-- spaces at the front are no piece
past_one : (place byte : ℕ) (bytes : List ℕ) (space : Bool) → eqb byte 32 ≡ space → ((p : ℕ) → pieces_from p bytes ≡ pieces_from (p + leading_spaces bytes) (drop (leading_spaces bytes) bytes))
    → pieces_from place (byte ∷ bytes) ≡ pieces_from (place + leading_spaces (byte ∷ bytes)) (drop (leading_spaces (byte ∷ bytes)) (byte ∷ bytes))
past_one place byte bytes true s more =
    let t = no_slash byte s in
    let on : place + 0 + 1 + leading_spaces bytes ≡ place + suc (leading_spaces bytes) = omega arith in
    simp (s, t) (more (place + 0 + 1) ∙ ap (λ (n : ℕ). pieces_from n (drop (leading_spaces bytes) bytes)) on)
past_one place byte bytes false s more =
    let none : leading_spaces (byte ∷ bytes) ≡ 0 = simp s in
    let same : place ≡ place + 0 = omega arith in
    ap (λ (n : ℕ). pieces_from n (byte ∷ bytes)) same ∙ sym (ap (λ (k : ℕ). pieces_from (place + k) (drop k (byte ∷ bytes))) none)

pub pieces_past_spaces : (line : List ℕ) (place : ℕ) → pieces_from place line ≡ pieces_from (place + leading_spaces line) (drop (leading_spaces line) line)
pieces_past_spaces [] place = refl
pieces_past_spaces (byte ∷ bytes) place = past_one place byte bytes (eqb byte 32) refl (pieces_past_spaces bytes)

-- a group goes on as far as its length says
abbrev GoesOn : ℕ → List ℕ → List ℕ → Type 0
GoesOn place front line = pieces_after place front line
    ≡ with_group_before place (front ++ take (leading_group line) line) (pieces_from (place + length front + leading_group line) (drop (leading_group line) line))

ended : (place : ℕ) (front : List ℕ) (parts others : List Part) → parts ≡ others → with_group_before place front parts ≡ with_group_before place (front ++ []) others
ended place front parts others e = ap (λ ps. with_group_before place front ps) e ∙ ap (λ g. with_group_before place g others) (sym (append-nil front))

goes_on_one : (place : ℕ) (front : List ℕ) (byte : ℕ) (bytes : List ℕ) (slash space : Bool) → eqb byte 47 ≡ slash → eqb byte 32 ≡ space → GoesOn place (front ++ byte ∷ []) bytes → GoesOn place front (byte ∷ bytes)
goes_on_one place front byte bytes true true s t more = let u = no_slash byte t in absurd (both_ways (eqb byte 47) u s)
goes_on_one place front byte bytes true false s t more =
    simp (s, t) (ended place front _ _ (ap (λ (n : ℕ). remark n bytes ∷ []) (omega arith)))
goes_on_one place front byte bytes false true s t more =
    simp (s, t) (ended place front _ _ (ap (λ (n : ℕ). pieces_from n bytes) (omega arith)))
goes_on_one place front byte bytes false false s t more =
    let l = length_push front byte in
    let on : place + length (front ++ byte ∷ []) + leading_group bytes ≡ place + length front + suc (leading_group bytes) = omega arith in
    simp (s, t)
    (more ∙ ap (λ (n : ℕ). with_group_before place ((front ++ byte ∷ []) ++ take (leading_group bytes) bytes) (pieces_from n (drop (leading_group bytes) bytes))) on
    ∙ ap (λ g. with_group_before place g (pieces_from (place + length front + suc (leading_group bytes)) (drop (leading_group bytes) bytes))) (append_assoc front (byte ∷ []) _))

goes_on : (line front : List ℕ) (place : ℕ) → GoesOn place front line
goes_on [] front place = ended place front [] [] refl
goes_on (byte ∷ bytes) front place = goes_on_one place front byte bytes (eqb byte 47) (eqb byte 32) refl refl (goes_on bytes (front ++ byte ∷ []) place)

-- the first piece of a line that begins with a byte of a group
first_group : (place byte : ℕ) (bytes : List ℕ) → ends_group byte ≡ false
    → pieces_from place (byte ∷ bytes) ≡ group place (take (leading_group (byte ∷ bytes)) (byte ∷ bytes)) ∷ pieces_from (place + leading_group (byte ∷ bytes)) (drop (leading_group (byte ∷ bytes)) (byte ∷ bytes))
first_group place byte bytes s =
    goes_on (byte ∷ bytes) [] place
    ∙ simp s (ap (λ (n : ℕ). group place (byte ∷ take (leading_group bytes) bytes) ∷ pieces_from n (drop (leading_group bytes) bytes)) (omega arith))

-- after the spaces at the front comes no space
no_space_one : (byte : ℕ) (bytes : List ℕ) (space : Bool) (first : ℕ) (others : List ℕ) → eqb byte 32 ≡ space → (drop (leading_spaces bytes) bytes ≡ first ∷ others → eqb first 32 ≡ false) → drop (leading_spaces (byte ∷ bytes)) (byte ∷ bytes) ≡ first ∷ others → eqb first 32 ≡ false
no_space_one byte bytes true first others s more e = more (simp s at e)
no_space_one byte bytes false first others s more e = let f = simp s at e in cc

no_space_behind : (line : List ℕ) (first : ℕ) (others : List ℕ) → drop (leading_spaces line) line ≡ first ∷ others → eqb first 32 ≡ false
no_space_behind [] first others e = let z : ◌≡◌ {A = ℕ} 0 1 = cc in absurd (omega arith)
no_space_behind (byte ∷ bytes) first others e = no_space_one byte bytes (eqb byte 32) first others refl (no_space_behind bytes first others) e

-- the first piece, by what follows the spaces at the front
module _ (place : ℕ) (line rest : List ℕ) (behind : rest ≡ drop (leading_spaces line) line) where
  pub no_piece : length rest ≡ 0 → pieces_from place line ≡ []
  no_piece none = pieces_past_spaces line place ∙ ap (pieces_from (place + leading_spaces line)) (sym behind ∙ nil_from_length rest none)

  module _ (first : ℕ) (others : List ℕ) (begins : rest ≡ first ∷ others) where
    first_piece : pieces_from place line ≡ pieces_from (place + leading_spaces line) (first ∷ others)
    first_piece = pieces_past_spaces line place ∙ ap (pieces_from (place + leading_spaces line)) (sym behind ∙ begins)

    pub a_remark : first ≡ 47 → pieces_from place line ≡ remark (place + leading_spaces line + 1) others ∷ []
    a_remark slash =
        let s = eq-eqb first 47 slash in
        first_piece ∙ simp s (ap (λ (n : ℕ). remark n others ∷ []) (omega arith))

    pub a_group : (first ≡ 47 → ⊥) → pieces_from place line ≡ group (place + leading_spaces line) (take (leading_group rest) rest) ∷ pieces_from (place + leading_spaces line + leading_group rest) (drop (leading_group rest) rest)
    a_group no_slash =
        let no_end = or_from (eqb first 32) (eqb first 47) (no_space_behind line first others (sym behind ∙ begins)) (ne_eqb first 47 no_slash) in
        subst (λ (bytes : List ℕ). pieces_from place line ≡ group (place + leading_spaces line) (take (leading_group bytes) bytes) ∷ pieces_from (place + leading_spaces line + leading_group bytes) (drop (leading_group bytes) bytes)) (sym begins)
        (first_piece ∙ first_group (place + leading_spaces line) first others no_end)
