-- Hex digits, and numbers read digit by digit, as the tables of calls write them.
use Rattle.std.specs.Prelude.{Bool, ◌&&◌, ℕ, ◌+◌, ◌-◌, ◌*◌, ◌%◌, leb, Option, Some, None, if◌then◌else◌}

-- a letter is one of a stretch of letters
abbrev pub among : ℕ → ℕ → ℕ → Bool
among first last letter = leb first letter && leb letter last

-- 0 to 9 and A to F; another letter has no value
abbrev pub digit_of : ℕ → Option ℕ
digit_of letter =
    if among 0x30 0x39 letter then Some (letter - 0x30)
    else if among 0x41 0x46 letter then Some (letter - 0x41 + 10)
    else None

-- one digit more, within 32 bits
abbrev pub with_digit : ℕ → ℕ → ℕ
with_digit number digit = number % 0x10000000 * 16 + digit % 16
