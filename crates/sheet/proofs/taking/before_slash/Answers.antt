use Rattle.std.proofs.Common.{ℕ, eqb, length, take, unwrap_or, ap, ◌∙◌, rules, tests}
use Rattle.std.proofs.lemmas.Iterator.{YieldsList-from_slice}
use Rattle.std.proofs.lemmas.Iterator.Search.{position_from_yields_List}
use Rattle.sheet.proofs.taking.before_slash.Goals as goal
use Rattle.sheet.proofs.Fronts.{place_or_end}

pub returns : goal.returns
returns c =
    let line = c.args.line.now in
    let found = position_from_yields_List (λ b. eqb b 47) _ _ _ c.position.ensures.ran (YieldsList-from_slice line cc) (λ x b q k. search (rules, tests)) in
    let end = c.unwrap_or-end.ensures ∙ ap (λ o. unwrap_or o (length line)) found ∙ place_or_end (λ b. eqb b 47) line in
    ap (λ (n : ℕ). take n line) end
