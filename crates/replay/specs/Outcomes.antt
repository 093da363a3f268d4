-- How an outcome is written.
use Rattle.std.specs.Prelude.{◌≡◌, ℕ, List, ◌++◌, Option, codes, decimal, IfSome}

-- the text is what a value prints, if its type says what that is
abbrev pub IsPrinted : Option (List ℕ) → List ℕ → Type 0
IsPrinted output text = IfSome output (λ bytes. text ≡ bytes)

abbrev pub recorded_refusal : ℕ → List ℕ
recorded_refusal number = codes "refusal " ++ decimal number
