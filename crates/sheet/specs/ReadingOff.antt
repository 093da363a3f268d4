-- What twelve symbols say: a sail number, and the tenths of a second since midnight.
use Rattle.std.specs.Prelude.{ℕ, ◌+◌, ◌*◌, ◌/◌, cond, List, length, take, drop, fold, Ok, Err, Result, ◌==◌, nat_le}
use Rattle.sheet.specs.declared.fault.LineFault.{LineFault}
use Rattle.sheet.specs.declared.fault.LineFault.TheVariants.{SymbolCount, LateTime}

-- the number of digits in base 32, highest first, after those of n
abbrev pub base_32_after : ℕ → List ℕ → ℕ
base_32_after n digits = fold (λ number digit. number * 32 + digit) n digits

-- a day has 864,000 tenths of a second
abbrev pub within_day : ℕ → ℕ → Result (ℕ × ℕ) LineFault
within_day sail tenths = cond (nat_le tenths 863999) (Ok (sail, tenths)) (Err LateTime)

-- four symbols for the sail number and four for the tenths; the four checks are not looked at
abbrev pub read_off : List ℕ → Result (ℕ × ℕ) LineFault
read_off symbols =
    cond (length symbols == 12)
    (within_day (base_32_after 0 (take 4 symbols)) (base_32_after 0 (take 4 (drop 4 symbols))))
    (Err SymbolCount)

-- tenths of a second with the last digit dropped
abbrev pub whole_seconds : ℕ → ℕ
whole_seconds tenths = tenths / 10
