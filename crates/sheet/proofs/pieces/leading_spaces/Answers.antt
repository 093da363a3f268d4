use Rattle.std.proofs.Common.{◌≡◌, ◌∙◌, sym, refl, rules, tests, arith}
use Rattle.std.proofs.lemmas.Bool.{eq-eqb, ne_eqb}
use Rattle.std.proofs.lemmas.Iterator.{IsFirst-from_position, YieldsList-from_slice, index_from_first}
use Rattle.sheet.specs.Pieces.{leading_spaces}
use Rattle.sheet.proofs.pieces.leading_spaces.Goals as goal

pub returns-clause-value : goal.returns-clause-value
returns-clause-value c =
    let bytes = c.args.bytes.now in
    let first = IsFirst-from_position _ _ _ (λ b. ¬ (b ≡ 32)) (λ b. b ≡ 32) c.position.ensures.ran (YieldsList-from_slice bytes cc) (λ x q k. search (rules, tests)) (λ x q k. search (rules, tests)) in
    let counted = index_from_first leading_spaces (λ b. ¬ (b ≡ 32)) (λ b. b ≡ 32) refl (λ x xs h. simp (ne_eqb x 32 h)) (λ x xs h. simp (eq-eqb x 32 h) (omega arith)) bytes _ first in
    c.unwrap_or.ensures ∙ sym counted
