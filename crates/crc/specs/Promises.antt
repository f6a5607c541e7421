-- What is promised of the check.
use Rattle.std.specs.Prelude.{List, [], ◌∷◌, ◌≡◌, ℕ, ◌<◌, length, get_or, set}
use Rattle.crc.specs.Crc.{crc_of}

-- the known answer for the nine characters "123456789"
abbrev pub KnownAnswer : Type 0
KnownAnswer = crc_of (0x31 ∷ 0x32 ∷ 0x33 ∷ 0x34 ∷ 0x35 ∷ 0x36 ∷ 0x37 ∷ 0x38 ∷ 0x39 ∷ []) ≡ 0x2771

-- each number of a list is a byte, as in every stretch of lent memory
abbrev pub Bytes : List ℕ → Type 0
Bytes s = (i : ℕ) → get_or s i 0 < 256

-- a check has 16 bits
abbrev pub SixteenBits : Type 0
SixteenBits = (s : List ℕ) → crc_of s < 65536

-- one byte changed, wherever it stands and to whatever byte: the check is another
abbrev pub Noticed : Type 0
Noticed = (s : List ℕ) → Bytes s → (i b : ℕ) → i < length s → b < 256 → ¬ (b ≡ get_or s i 0) → ¬ (crc_of (set s i b) ≡ crc_of s)
