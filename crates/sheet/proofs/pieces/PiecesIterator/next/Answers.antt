use Rattle.std.proofs.Common.{◌≡◌, ℕ, ◌+◌, ◌-◌, ◌≤◌, List, [], ◌∷◌, length, take, drop, sym, ap, ◌∙◌, rules, arith}
use Rattle.std.proofs.lemmas.List.{drop-drop, drop_all, length-take-le, take_rest}
use Rattle.sheet.specs.Pieces.{group, leading_group, leading_spaces, pieces_from, remark}
use Rattle.sheet.proofs.Cuts.{no_piece, a_remark, a_group}
use Rattle.sheet.proofs.pieces.PiecesIterator.next.Goals as goal

module _ (whole : List ℕ) (place spaces : ℕ) (rest again : List ℕ) (rests : rest ≡ drop place whole) (rests_again : again ≡ drop place whole) (counts : spaces ≡ leading_spaces rest) where
  counted : spaces ≡ leading_spaces (drop place whole)
  counted = counts ∙ ap leading_spaces rests

  -- what follows the spaces at the front
  abbrev ahead : List ℕ
  ahead = take (length again - spaces) (drop spaces again)

  past_spaces : ahead ≡ drop (leading_spaces (drop place whole)) (drop place whole)
  past_spaces = take_rest again spaces ∙ ap (drop spaces) rests_again ∙ ap (λ (n : ℕ). drop n (drop place whole)) counted

  none_left : length ahead ≡ 0 → pieces_from place (drop place whole) ≡ []
  none_left none = no_piece place (drop place whole) ahead past_spaces none

  module _ (first : ℕ) (others : List ℕ) (begins : ahead ≡ first ∷ others) where
    remark_left : first ≡ 47 → pieces_from place (drop place whole) ≡ remark (place + spaces + 1) others ∷ pieces_from (length whole) (drop (length whole) whole)
    remark_left slash =
        let all : drop (length whole) whole ≡ [] = drop_all (length whole) whole (omega arith) in
        a_remark place (drop place whole) ahead past_spaces first others begins slash
        ∙ ap (λ (n : ℕ). remark (place + n + 1) others ∷ []) (sym counted)
        ∙ ap (λ ps. remark (place + spaces + 1) others ∷ ps) (ap (pieces_from (length whole)) (sym all))

    group_left : (size : ℕ) → size ≡ leading_group ahead → size ≤ length ahead → (first ≡ 47 → ⊥)
        → pieces_from place (drop place whole) ≡ group (place + spaces) (take size ahead) ∷ pieces_from (place + spaces + length (take size ahead)) (drop (place + spaces + length (take size ahead)) whole)
    group_left size sized few no_slash =
        let l : length (take size ahead) ≡ size = length-take-le size ahead few in
        let there : drop (place + spaces + size) whole ≡ drop size ahead =
        sym (drop-drop size (place + spaces) whole) ∙ ap (drop size) (sym (drop-drop spaces place whole) ∙ ap (drop spaces) (sym rests_again) ∙ sym (take_rest again spaces)) in
        a_group place (drop place whole) ahead past_spaces first others begins no_slash
        ∙ ap (λ (n : ℕ). group (place + n) (take (leading_group ahead) ahead) ∷ pieces_from (place + n + leading_group ahead) (drop (leading_group ahead) ahead)) (sym counted)
        ∙ ap (λ (n : ℕ). group (place + spaces) (take n ahead) ∷ pieces_from (place + spaces + n) (drop n ahead)) (sym sized)
        ∙ ap (λ (bytes : List ℕ). group (place + spaces) (take size ahead) ∷ pieces_from (place + spaces + size) bytes) (sym there)
        ∙ ap (λ (n : ℕ). group (place + spaces) (take size ahead) ∷ pieces_from (place + spaces + n) (drop (place + spaces + n) whole)) (sym l)

pub returns-in_err-first-clause-steps : goal.returns-in_err-first-clause-steps
returns-in_err-first-clause-steps c =
    let none = none_left c.args.self.now.line.now c.args.self.now.place _ _ _ c.rest.ensures c.rest-2.ensures c.leading_spaces-spaces.ensures.value c.in_err-first.ensures.cases in
    rw c.from_residual.ensures (none, none)

pub returns-then-first-eq47-clause-steps : goal.returns-then-first-eq47-clause-steps
returns-then-first-eq47-clause-steps c =
    remark_left _ _ _ _ _ c.rest.ensures c.rest-2.ensures c.leading_spaces-spaces.ensures.value _ _ c.in_ok-first.ensures.cases.0 c.if-first-eq47.true

pub returns-then-first-eq47-clause-goes : goal.returns-then-first-eq47-clause-goes
returns-then-first-eq47-clause-goes c =
    let less = ap length (returns-then-first-eq47-clause-steps c) in
    search rules

pub returns-clause-steps : goal.returns-clause-steps
returns-clause-steps c =
    group_left _ _ _ _ _ c.rest.ensures c.rest-2.ensures c.leading_spaces-spaces.ensures.value _ _ c.in_ok-first.ensures.cases.0 _ c.leading_group.ensures.value c.leading_group.ensures.bound c.if-first-eq47.false

pub returns-clause-goes : goal.returns-clause-goes
returns-clause-goes c =
    let less = ap length (returns-clause-steps c) in
    search rules
