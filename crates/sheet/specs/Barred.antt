-- Why a typed line is refused, by its bytes alone.
--   is_admissible   a byte may be among the groups of a line of a case
--   Bars            the reason to refuse a byte that comes after so many symbols
--   IsBarred        the first byte among a line's groups that may not be there, or has no room, is refused for that
use Rattle.std.specs.Prelude.{◌≡◌, ◌≢◌, ℕ, ◌≤◌, ◌<◌, Bool, true, false, ◌||◌, ◌&&◌, not, List, filter, length, take, slice_index_or, ◌==◌}
use Rattle.std.specs.List.{AllPass}
use Rattle.std.specs.Option.{is_some}
use Rattle.book.specs.declared.slip_fault.SlipFault.TheVariants.{Full}
use Rattle.sheet.specs.Characters.{read_character}
use Rattle.sheet.specs.Taking.{fault_at, is_other_case}
use Rattle.sheet.specs.declared.characters.Case.{Case}
use Rattle.sheet.specs.declared.fault.LineFault.{LineFault}
use Rattle.sheet.specs.declared.taking.ByteFault.{ByteFault}
use Rattle.sheet.specs.declared.taking.ByteFault.TheVariants.{OnSlip, OutsideSet, OtherCase}

-- a character of the set or a question mark
abbrev pub is_character : ℕ → Bool
is_character byte = is_some (read_character byte)

-- a space, or a character that is no letter of the other case
abbrev pub is_admissible : Case → ℕ → Bool
is_admissible case byte = byte == 32 || (is_character byte && not (is_other_case case byte))

-- the bytes that stand for symbols, if all are admissible
abbrev pub unspaced : List ℕ → List ℕ
unspaced bytes = filter (λ byte. not (byte == 32)) bytes

-- a byte is outside the set; else a letter of the other case; else there is no room, since 89 symbols came before
abbrev pub Bars : Case → ℕ → ℕ → ByteFault → Type 0
Bars case held byte OutsideSet = (byte ≢ 32) × (is_character byte ≡ false)
Bars case held byte OtherCase = (is_character byte ≡ true) × (is_other_case case byte ≡ true)
Bars case held byte (OnSlip fault) =
    (is_character byte ≡ true) × (is_other_case case byte ≡ false) × (held ≡ 89) × (fault ≡ Full)

pub record IsBarred (case : Case) (groups : List ℕ) (fault : LineFault) : Type 0 where
  pub place : ℕ
  pub held : ℕ
  pub why : ByteFault
  pub within : place < length groups
  pub before : AllPass (is_admissible case) (take place groups)
  pub counted : held ≡ length (unspaced (take place groups))
  pub room : held ≤ 89
  pub here : Bars case held (slice_index_or groups place 0) why
  pub told : fault ≡ fault_at place why
