-- Decimal numbers as words. own
use Rattle.std.specs.Prelude.{ℕ, ◌+◌, ◌-◌, ◌*◌, nat_le, nat_lt, List, [], ◌∷◌, Bool, ◌||◌, Option, None, Some, if◌then◌else◌}
use Rattle.esm_base.specs.Urls.{Text}

-- the byte isn't a decimal digit from the one with this code on
abbrev pub is_outside : ℕ → ℕ → Bool
is_outside least byte = nat_lt byte least || nat_lt 57 byte

-- the number that decimal digits are behind those that are n; none where one is no digit
abbrev pub number_on : ℕ → List ℕ → Option ℕ
number_on n [] = Some n
number_on n (byte ∷ bytes) = if is_outside 48 byte then None else number_on (10 * n + (byte - 48)) bytes

-- the number that a word is: decimal digits, of which the first isn't 0, so 0 is none
abbrev pub number_of : Text → Option ℕ
number_of [] = None
number_of (byte ∷ bytes) = if is_outside 49 byte then None else number_on (byte - 48) bytes

-- where it is at most this
abbrev pub within : ℕ → Option ℕ → Option ℕ
within most None = None
within most (Some n) = if nat_le n most then Some n else None
