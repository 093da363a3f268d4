-- What the program `seal` writes for a boat's line: the sealed row, or the refusal.
use Rattle.std.specs.Prelude.{◌≡◌, ℕ, List, [], ◌∷◌, ◌++◌, decimal, Ok, Err, Result}
use Rattle.sheet.specs.Refusals.{line_refusal}
use Rattle.sheet.specs.Sealed.{sealed_line}
use Rattle.sheet.specs.declared.fault.LineFault.{LineFault}
use Rattle.sheet.specs.declared.refusal.Refusal.{Refusal}

-- a row, and the newline that ends its line
abbrev pub with_newline : List ℕ → List ℕ
with_newline row = row ++ 10 ∷ []

-- the number, a space, the place and a newline
abbrev pub refusal_text : Refusal → List ℕ
refusal_text why = decimal why.number ++ 32 ∷ decimal why.place ++ 10 ∷ []

abbrev pub sealed_text : Result (List ℕ) LineFault → List ℕ
sealed_text (Ok row) = with_newline row
sealed_text (Err fault) = refusal_text (line_refusal fault)

-- the text for a line does not depend on its number
abbrev pub SealedText : ℕ → List ℕ → List ℕ → Type 0
SealedText number line text = text ≡ sealed_text (sealed_line line)
