-- 001's command table: what the first two bytes of a command say. "S0 being the lowest bit of the first byte, A8 and A9 its two highest."
use Rattle.std.specs.Prelude.{◌&&◌, ◌||◌, ℕ, ◌+◌, ◌*◌, ◌/◌, eqb, if◌then◌else◌}
use Rattle.card.specs.declared.Command.{Command}
use Rattle.card.specs.declared.Command.TheVariants.{WriteWithBit, Write, Protect, ReadWithBit, Read, Count, Compare, Ignored}

-- the address: A0 to A7 are the second byte, A8 and A9 the two highest bits of the first
abbrev pub address_of : ℕ → ℕ → ℕ
address_of first second = first / 64 * 256 + second

-- a control word, its bits in the order of 001's columns
abbrev pub word : ℕ → ℕ → ℕ → ℕ → ℕ → ℕ → ℕ
word s0 s1 s2 s3 s4 s5 = s0 + 2 * s1 + 4 * s2 + 8 * s3 + 16 * s4 + 32 * s5

-- the counter, and the two bytes of the security code
abbrev pub counter : ℕ
counter = 1021

abbrev pub code₁ : ℕ
code₁ = 1022

abbrev pub code₂ : ℕ
code₂ = 1023

-- the table, line by line; two of its lines name the addresses, and a command of theirs elsewhere is in no line
unfoldable pub command_of : ℕ → ℕ → Command
command_of w a =
    if eqb w (word 1 0 0 0 1 1) then WriteWithBit
    else if eqb w (word 1 1 0 0 1 1) then Write
    else if eqb w (word 0 0 0 0 1 1) then Protect
    else if eqb w (word 0 0 1 1 0 0) then ReadWithBit
    else if eqb w (word 0 1 1 1 0 0) then Read
    else if eqb w (word 0 1 0 0 1 1) && eqb a counter then Count
    else if eqb w (word 1 0 1 1 0 0) && (eqb a code₁ || eqb a code₂) then Compare
    else Ignored
