-- A number in a column of bytes, and the number that a column says.
use Rattle.std.specs.Prelude.{ℕ, zero, suc, ◌+◌, ◌-◌, ◌*◌, ◌/◌, ◌%◌, Bool, cond, ◌&&◌, List, [], ◌∷◌, ◌++◌, Some, None, Option, ◌==◌, nat_le}

-- the places before the last digit: the digits of a number, spaces where none is left
abbrev pub front : ℕ → ℕ → List ℕ
front zero n = []
front (suc width) n = front width (n / 10) ++ cond (n == 0) 32 (48 + n % 10) ∷ []

-- a number right-justified in so many places; of a number that is too wide, its low digits
unfoldable pub column : ℕ → ℕ → List ℕ
column zero n = []
column (suc width) n = front width (n / 10) ++ (48 + n % 10) ∷ []

abbrev pub is_digit : ℕ → Bool
is_digit byte = nat_le 48 byte && nat_le byte 57

-- the number that digits say after those of n; none if there is another byte
abbrev pub decimal_after : ℕ → List ℕ → Option ℕ
decimal_after n [] = Some n
decimal_after n (byte ∷ bytes) =
    cond (is_digit byte) (decimal_after (n * 10 + (byte - 48)) bytes) None

-- spaces, then the digits of a number; none if there is another byte, or no digit
abbrev pub read_column : List ℕ → Option ℕ
read_column [] = None
read_column (byte ∷ bytes) = cond (byte == 32) (read_column bytes) (decimal_after 0 (byte ∷ bytes))
