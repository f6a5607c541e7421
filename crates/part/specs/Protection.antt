-- Document 01, "Protection", and document 02, "the complement bit": which blocks register A0h protects.
use Rattle.std.specs.Prelude.{Bool, false, not, ◌&&◌, ℕ, ◌+◌, ◌-◌, ◌*◌, ◌/◌, ◌%◌, ◌^◌, leb, ltb, eqb, if◌then◌else◌}
use Rattle.part.specs.declared.Geometry.{Geometry}
use Rattle.part.specs.declared.Stepping.{Stepping}
use Rattle.part.specs.declared.Stepping.TheVariants.{First, Second}

-- A0h, bits 5-3: the BP number
abbrev pub bp : ℕ → ℕ
bp a0 = a0 / 8 % 8

-- A0h, bit 2: INV
abbrev pub inv : ℕ → Bool
inv a0 = eqb (a0 / 4 % 2) 1

-- A0h, bit 1: CMP, on the second stepping
abbrev pub cmp : ℕ → Bool
cmp a0 = eqb (a0 / 2 % 2) 1

-- for b = 0 no block; otherwise N / 2^(7-b), rounded down, blocks
abbrev pub guarded : Geometry → ℕ → ℕ
guarded g b = if eqb b 0 then 0 else g.blocks / 2 ^ (7 - b)

-- the highest numbered if INV is 0 and the lowest if it is 1
abbrev pub picked : Geometry → ℕ → ℕ → Bool
picked g a0 k =
    let q = guarded g (bp a0) in
    if inv a0 then ltb k q else leb (g.blocks - q) k

-- the second stepping, with CMP 1 and b from 1 to 6: those that would be open
abbrev pub complemented : Stepping → ℕ → Bool
complemented First a0 = false
complemented Second a0 = cmp a0 && leb 1 (bp a0) && leb (bp a0) 6

-- a number that no block of the part has is never protected
unfoldable pub protects : Geometry → ℕ → ℕ → Bool
protects g a0 k = ltb k g.blocks && (if complemented g.stepping a0 then not (picked g a0 k) else picked g a0 k)

-- A0h with CMP 1, and with CMP 0, its other bits as they are
abbrev pub cmp_set : ℕ → ℕ
cmp_set a0 = a0 / 4 * 4 + 2 + a0 % 2

abbrev pub cmp_cleared : ℕ → ℕ
cmp_cleared a0 = a0 / 4 * 4 + a0 % 2
