use Rattle.std.proofs.Common.{◌≡◌, ◌∙◌, true, false, sym, refl, rules, tests, arith}
use Rattle.std.proofs.lemmas.Iterator.{IsFirst-from_position, YieldsList-from_slice, index_from_first}
use Rattle.sheet.specs.Pieces.{ends_group, leading_group}
use Rattle.sheet.proofs.pieces.leading_group.Goals as goal

pub returns-clause-value : goal.returns-clause-value
returns-clause-value c =
    let bytes = c.args.bytes.now in
    let first = IsFirst-from_position _ _ _ (λ b. ends_group b ≡ true) (λ b. ends_group b ≡ false) c.position.ensures.ran (YieldsList-from_slice bytes cc) (λ x q k. search (rules, tests)) (λ x q k. search (rules, tests)) in
    let counted = index_from_first leading_group (λ b. ends_group b ≡ true) (λ b. ends_group b ≡ false) refl (λ x xs h. simp h) (λ x xs h. simp h (omega arith)) bytes _ first in
    c.unwrap_or.ensures ∙ sym counted
