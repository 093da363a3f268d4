-- Twelve characters that are put among spaces one by one, each a place further for each whole group before it.
use Rattle.std.proofs.Common.{ℕ, zero, suc, ◌+◌, ◌/◌, List, get_or, set, replicate}
use Rattle.sheet.specs.Groups.{character_for}
use Rattle.sheet.specs.declared.characters.Case.{Case}

-- the text once the first n characters of a row are in their places
abbrev pub placed : Case → List ℕ → ℕ → List ℕ
placed case row zero = replicate 14 32
placed case row (suc n) = set (placed case row n) (n + n / 4) (character_for case (get_or row n 0))
