-- Document 02, item 1: the ONFI 1.0 check of a stretch of bytes, a bit at a time: 16 bits, polynomial 8005h, start 4F4Eh, highest bit
-- first.
use Rattle.std.specs.Prelude.{List, [], ◌∷◌, ◌≡◌, ℕ, ◌*◌, ◌/◌, ◌%◌, ◌<◌, eqb, get_or, if◌then◌else◌}
use Rattle.std.specs.Int.Bits.{bit_xor}

-- the polynomial x^16 + x^15 + x^2 + 1, without its x^16
abbrev pub polynomial : ℕ
polynomial = 0x8005

-- what a check starts from
abbrev pub start : ℕ
start = 0x4F4E

-- one bit b: the 16 bits of the check move up by one; if the one that goes out at the top is not b, the polynomial is added without carry
unfoldable pub bit_fed : ℕ → ℕ → ℕ
bit_fed c b = if eqb (c / 0x8000) b then c % 0x8000 * 2 else bit_xor (c % 0x8000 * 2) polynomial

-- one byte n: its eight bits, the highest first
unfoldable pub byte_fed : ℕ → ℕ → ℕ
byte_fed c n =
    let c₁ = bit_fed c (n / 128 % 2) in
    let c₂ = bit_fed c₁ (n / 64 % 2) in
    let c₃ = bit_fed c₂ (n / 32 % 2) in
    let c₄ = bit_fed c₃ (n / 16 % 2) in
    let c₅ = bit_fed c₄ (n / 8 % 2) in
    let c₆ = bit_fed c₅ (n / 4 % 2) in
    let c₇ = bit_fed c₆ (n / 2 % 2) in
    bit_fed c₇ (n % 2)

-- bytes, one after the other
unfoldable pub all_fed : ℕ → List ℕ → ℕ
all_fed c [] = c
all_fed c (n ∷ ns) = all_fed (byte_fed c n) ns

-- the check of a stretch of bytes
abbrev pub crc_of : List ℕ → ℕ
crc_of s = all_fed start s

-- ---- how the code does eight bits at once: by a table

-- a table is right if its entry n is what the eight bits of n make of a check of 0
pub record RightTable (t : List ℕ) : Type 0 where
  pub rule : (n : ℕ) → n < 256 → get_or t n 0 ≡ byte_fed 0 n
