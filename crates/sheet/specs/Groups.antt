-- A row of twelve symbols as text.
use Rattle.std.specs.Prelude.{ℕ, List, ◌∷◌, ◌++◌, map, take, drop}
use Rattle.std.specs.Option.{unwrap_or}
use Rattle.sheet.specs.Characters.{write_character}
use Rattle.sheet.specs.declared.characters.Case.{Case}

-- the character of a symbol; a question mark for a number that stands for none
abbrev pub character_for : Case → ℕ → ℕ
character_for case symbol = unwrap_or (write_character case symbol) 63

-- three groups of four, a space between two groups
abbrev pub spaced_groups : List ℕ → List ℕ
spaced_groups row = take 4 row ++ 32 ∷ (take 4 (drop 4 row) ++ 32 ∷ take 4 (drop 8 row))

abbrev pub in_groups : Case → List ℕ → List ℕ
in_groups case symbols = spaced_groups (map (character_for case) symbols)
