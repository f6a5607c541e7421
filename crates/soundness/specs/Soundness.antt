-- Document 01, "Numbers of refusal": the parts of a sound state, each over what it speaks of. (All together they stand with the device.)
use Rattle.std.specs.Prelude.{Bool, true, not, ◌&&◌, ◌||◌, ◌≡◌, ℕ, ◌/◌, leb, ltb, eqb}
use Rattle.std.specs.Int.Bits.{bit_and}
use Rattle.part.specs.declared.Geometry.{Geometry}
use Rattle.registers.specs.Registers.{oip, a0_mask, b0_mask, d0_mask}
use Rattle.registers.specs.declared.Registers.{Registers}
use Rattle.codes.specs.Codes.{no_byte}
use Rattle.transfer.specs.Transfer.{is}
use Rattle.transfer.specs.declared.Transfer.{Transfer}
use Rattle.array.specs.Jobs.{length_of, inside, Going}
use Rattle.array.specs.declared.Job.{Job}
use Rattle.array.specs.declared.Job.TheVariants.{Read, Program, Erase, Restart}
use Rattle.array.specs.declared.Work.{Work}
use Rattle.array.specs.declared.Work.TheVariants.{Idle, Busy}

-- ---- in the paper's words

-- bits of a register outside its mask are 0
abbrev pub Within : ℕ → ℕ → Type 0
Within mask v = bit_and v mask ≡ v

-- what bits 7 to 4 of C0h, taken as a number, may be: 0
abbrev pub HighSound : ℕ → Type 0
HighSound h = h ≡ 0

-- an operation is in progress
abbrev pub InProgress : Work → Type 0
InProgress Idle = ⊥
InProgress (Busy j i) = Unit {0}

-- an operation in progress has fewer units done than its length, and for program and erase its row is in the array
abbrev pub WorkSound : Geometry → Work → Type 0
WorkSound g Idle = Unit {0}
WorkSound g (Busy j i) = Going g j i

-- the instruction is 0Fh, 9Fh or FFh, or is being ignored
abbrev pub let_in : Transfer → Bool
let_in t = is t 0x0F || is t 0x9F || is t 0xFF || is t no_byte

-- ---- the same as tests

-- bits of a register outside its mask are 0
abbrev pub within : ℕ → ℕ → Bool
within mask v = eqb (bit_and v mask) v

-- bits 7 to 4 of C0h are as they may be
abbrev pub high_sound : ℕ → Bool
high_sound h = eqb h 0

-- A0h, B0h and D0h are within their masks, and the high bits of C0h are as they may be
abbrev pub registers_sound : Geometry → Registers → Bool
registers_sound g r = within (a0_mask g) r.a0 && within b0_mask r.b0 && within d0_mask r.d0 && high_sound (r.c0 / 16)

-- the count is at most 5, the next column at most 4,096
abbrev pub transfer_sound : Transfer → Bool
transfer_sound t = leb t.count 5 && leb t.column.0 4096

-- for program and erase the row is in the array
abbrev pub in_array : Geometry → Job → Bool
in_array g (Read r) = true
in_array g (Program r) = inside g r
in_array g (Erase r) = inside g r
in_array g Restart = true

-- OIP is 1 exactly when an operation is in progress, and it is sound
abbrev pub work_sound : Geometry → ℕ → Work → Bool
work_sound g c Idle = not (oip c)
work_sound g c (Busy j i) = oip c && ltb i (length_of g j) && in_array g j

-- while OIP is 1, a transfer with a byte in it was let in
abbrev pub calm : ℕ → Transfer → Bool
calm c t = not (oip c) || not t.selected || eqb t.count 0 || let_in t
