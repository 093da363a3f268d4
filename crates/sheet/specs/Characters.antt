-- What each byte says, and how a symbol is written.
use Rattle.std.specs.Prelude.{ℕ, ◌+◌, cond, List, [], ◌∷◌, Some, None, codes, Option, ◌==◌, nat_lt, slice_index}
use Rattle.std.specs.Char.{to_ascii_lowercase, to_ascii_uppercase, is_ascii_lowercase, is_ascii_uppercase}
use Rattle.sheet.specs.declared.characters.Character.{Character}
use Rattle.sheet.specs.declared.characters.Character.TheVariants.{Symbol, QuestionMark}
use Rattle.sheet.specs.declared.characters.Case.{Case}
use Rattle.sheet.specs.declared.characters.Case.TheVariants.{Lower, Upper}

-- the characters of the symbols 0 to 31
abbrev pub alphabet : List ℕ
alphabet = codes "qpzry9x8gf2tvdw0s3jn54khce6mua7l"

-- the case of a letter
abbrev pub letter_case : ℕ → Option Case
letter_case byte =
    cond (is_ascii_lowercase byte) (Some Lower) (cond (is_ascii_uppercase byte) (Some Upper) None)

-- a small letter in a given case
abbrev pub in_case : Case → ℕ → ℕ
in_case Lower byte = byte
in_case Upper byte = to_ascii_uppercase byte

-- the symbol of a character, by its place in a list whose first one stands for `n`
abbrev pub symbol_from : ℕ → List ℕ → ℕ → Option Character
symbol_from n [] byte = None
symbol_from n (c ∷ cs) byte = cond (byte == c) (Some (Symbol n)) (symbol_from (n + 1) cs byte)

-- what a byte says: a question mark is a case of its own, a letter says the same in either case
abbrev pub read_character : ℕ → Option Character
read_character byte =
    cond (byte == 63) (Some QuestionMark) (symbol_from 0 alphabet (to_ascii_lowercase byte))

-- how a symbol is written, none from 32 on
abbrev pub write_character : Case → ℕ → Option ℕ
write_character case symbol =
    cond (nat_lt symbol 32) (Some (in_case case (slice_index alphabet symbol))) None
