use Rattle.std.proofs.Common.{◌≡◌, ℕ, ◌<◌, cond, List, length, get_or, MatchOption, Option, Some, None, is_some, unwrap_or, sym, refl, ap, ◌∙◌, rules}
use Rattle.std.proofs.lemmas.List.Recursion.{found_at, found_nowhere}
use Rattle.sheet.specs.Characters.{letter_case}
use Rattle.sheet.specs.Taking.{line_case}
use Rattle.sheet.specs.declared.characters.Case.{Case}
use Rattle.sheet.specs.declared.characters.Case.TheVariants.{Lower}
use Rattle.sheet.proofs.taking.line_case.Goals as goal

-- the case of the first letter, none where no byte is one
abbrev FirstCase : List ℕ → Option Case → Type 0
FirstCase line first = MatchOption first ((k : ℕ) → k < length line → letter_case (get_or line k 0) ≡ None)
    (λ case. (i : ℕ) × (i < length line) × (letter_case (get_or line i 0) ≡ Some case) × ((k : ℕ) → k < i → letter_case (get_or line k 0) ≡ None))

one_more : (own : Option Case) (rest : Case) → unwrap_or own rest ≡ cond (is_some own) (unwrap_or own Lower) rest
one_more (Some case) rest = refl
one_more None rest = refl

first_case : (line : List ℕ) (first : Option Case) → FirstCase line first → unwrap_or first Lower ≡ line_case line
first_case line None none =
    sym (found_nowhere line_case (λ byte. is_some (letter_case byte)) (λ byte. unwrap_or (letter_case byte) Lower) Lower refl (λ byte bytes. one_more (letter_case byte) (line_case bytes)) line 0 (λ k h. ap is_some (none k h)))
first_case line (Some case) (i, h, here, before) =
    sym (found_at line_case (λ byte. is_some (letter_case byte)) (λ byte. unwrap_or (letter_case byte) Lower) Lower refl (λ byte bytes. one_more (letter_case byte) (line_case bytes)) line i 0 h (λ k b. ap is_some (before k b)) (ap is_some here) ∙ ap (λ own. unwrap_or own Lower) here)

pub returns : goal.returns
returns c =
    let found : FirstCase c.args.line.now c.find_map.result = search rules in
    c.unwrap_or.ensures ∙ first_case c.args.line.now c.find_map.result found
