-- The pieces of a line, each with its place in the line: groups, and the remark after the first slash.
use Rattle.std.specs.Prelude.{ℕ, suc, ◌+◌, Bool, cond, ◌||◌, List, [], ◌∷◌, ◌++◌, length, ◌==◌}

pub data Part : Type 0 where
  group : ℕ → List ℕ → Part
  remark : ℕ → List ℕ → Part

-- a group in front of other pieces, if it has a byte
abbrev pub with_group_before : ℕ → List ℕ → List Part → List Part
with_group_before place [] parts = parts
with_group_before place (byte ∷ bytes) parts = group place (byte ∷ bytes) ∷ parts

-- the pieces from a place on, where a group begins with some bytes: a slash ends the groups, and a space ends a group
abbrev pub pieces_after : ℕ → List ℕ → List ℕ → List Part
pieces_after place front [] = with_group_before place front []
pieces_after place front (byte ∷ bytes) =
    cond (byte == 47) (with_group_before place front (remark (place + length front + 1) bytes ∷ []))
    (cond (byte == 32)
    (with_group_before place front (pieces_after (place + length front + 1) [] bytes))
    (pieces_after place (front ++ byte ∷ []) bytes))

abbrev pub pieces_from : ℕ → List ℕ → List Part
pieces_from place line = pieces_after place [] line

abbrev pub pieces : List ℕ → List Part
pieces line = pieces_from 0 line

-- how many spaces stand at the front
abbrev pub leading_spaces : List ℕ → ℕ
leading_spaces [] = 0
leading_spaces (byte ∷ bytes) = cond (byte == 32) (suc (leading_spaces bytes)) 0

-- whether a byte ends a group
abbrev pub ends_group : ℕ → Bool
ends_group byte = byte == 32 || byte == 47

-- how many bytes of a group stand at the front
abbrev pub leading_group : List ℕ → ℕ
leading_group [] = 0
leading_group (byte ∷ bytes) = cond (ends_group byte) 0 (suc (leading_group bytes))
