-- Hexadecimal digits in upper case.
use Rattle.std.specs.Prelude.{ℕ, zero, suc, ◌+◌, ◌-◌, ◌*◌, ◌/◌, ◌%◌, ◌^◌, nat_lt, List, [], ◌∷◌, if◌then◌else◌}

-- the digit of a number that has `below` digits after it
abbrev pub digit_at : ℕ → ℕ → ℕ
digit_at number below = number / 2 ^ (4 * below) % 16

-- the byte that a digit is printed as
abbrev pub digit_code : ℕ → ℕ
digit_code digit = if nat_lt digit 10 then 48 + digit else 65 + (digit - 10)

-- the last `count` digits of a number, the highest first
unfoldable pub hexadecimal : ℕ → ℕ → List ℕ
hexadecimal zero number = []
hexadecimal (suc below) number = digit_code (digit_at number below) ∷ hexadecimal below number
