-- Document 02, item 5: the card, and what each command answers and changes.
use Rattle.std.specs.Prelude.{Bool, true, false, ◌&&◌, ◌||◌, List, [], ◌∷◌, ℕ, ◌+◌, ◌-◌, ◌*◌, ◌/◌, ◌%◌, ◌^◌, eqb, ltb, get_or, set, if◌then◌else◌}
use Rattle.std.specs.Int.Bits.{bit_and}
use Rattle.std.specs.Int.Count.{ones}
use Rattle.cardlog.specs.declared.Record.{Record}
use Rattle.cardlog.specs.declared.Record.TheVariants.{Sent, Power}
use Rattle.card.specs.Table.{address_of, command_of, code₁, code₂}
use Rattle.card.specs.declared.Command.{Command}
use Rattle.card.specs.declared.Command.TheVariants.{WriteWithBit, Write, Protect, ReadWithBit, Read, Count, Compare, Ignored}
use Rattle.card.specs.declared.Stage.{Stage}
use Rattle.card.specs.declared.Stage.TheVariants.{Fresh, Counted, Half, Open}

-- the card: how far the code has been given, 1,024 bytes, and one protect bit for each
pub record Card : Type 0 where
  pub stage : Stage
  pub cells : List ℕ
  pub bits : List ℕ

abbrev pub card : Stage → List ℕ → List ℕ → Card
card s cells bits = record { stage = s; cells = cells; bits = bits }

-- the security code has passed
abbrev pub is_open : Stage → Bool
is_open Fresh = false
is_open Counted = false
is_open Half = false
is_open Open = true

-- the byte at an address
abbrev pub cell_at : List ℕ → ℕ → ℕ
cell_at cells a = get_or cells a 0

-- ---- protect bits

-- "Bit a mod 8 of byte a / 8 of the protect bits belongs to address a."
abbrev pub bit_at : List ℕ → ℕ → ℕ
bit_at bits a = get_or bits (a / 8) 0 / 2 ^ (a % 8) % 2

-- the byte may change
abbrev pub free : List ℕ → ℕ → Bool
free bits a = eqb (bit_at bits a) 1

-- the protect bit of an address made 0, the others as they were
unfoldable pub shut : List ℕ → ℕ → List ℕ
shut bits a = set bits (a / 8) (get_or bits (a / 8) 0 - bit_at bits a * 2 ^ (a % 8))

-- ---- the counter command

-- the mask clears exactly one bit: the counter AND the mask has one bit fewer
unfoldable pub clears_one : ℕ → ℕ → Bool
clears_one old mask = eqb (ones old) (ones (bit_and old mask) + 1)

-- it spends a bit: the counter may change, and the mask clears exactly one
abbrev pub spends : List ℕ → List ℕ → ℕ → ℕ → Bool
spends cells bits a mask = free bits a && clears_one (cell_at cells a) mask

-- ---- what a command changes, by its address and its third byte

-- the code has passed, and the byte may change
abbrev pub writable : Stage → List ℕ → ℕ → Bool
writable s bits a = is_open s && free bits a

-- the cells: a write puts in the byte; the counter command the counter AND its mask
abbrev pub cells_after : Card → Command → ℕ → ℕ → List ℕ
cells_after c WriteWithBit a d = if writable c.stage c.bits a then set c.cells a d else c.cells
cells_after c Write a d = if writable c.stage c.bits a then set c.cells a d else c.cells
cells_after c Count a d = if spends c.cells c.bits a d then set c.cells a (bit_and (cell_at c.cells a) d) else c.cells
cells_after c Protect a d = c.cells
cells_after c ReadWithBit a d = c.cells
cells_after c Read a d = c.cells
cells_after c Compare a d = c.cells
cells_after c Ignored a d = c.cells

-- the protect bits: 0 with a write that has one, and where the third byte is compared right
abbrev pub bits_after : Card → Command → ℕ → ℕ → List ℕ
bits_after c WriteWithBit a d = if writable c.stage c.bits a then shut c.bits a else c.bits
bits_after c Protect a d = if is_open c.stage && eqb (cell_at c.cells a) d then shut c.bits a else c.bits
bits_after c Write a d = c.bits
bits_after c ReadWithBit a d = c.bits
bits_after c Read a d = c.bits
bits_after c Count a d = c.bits
bits_after c Compare a d = c.bits
bits_after c Ignored a d = c.bits

-- "any other command between .. starts it anew"; passing holds
abbrev pub anew : Stage → Stage
anew Fresh = Fresh
anew Counted = Fresh
anew Half = Fresh
anew Open = Open

-- "a counter bit newly cleared" is the first step, whatever was before
abbrev pub counted : Stage → Bool → Stage
counted s cleared = if is_open s then Open else if cleared then Counted else Fresh

-- "then right compares of 1022 and of 1023"
abbrev pub compared : Stage → ℕ → Bool → Stage
compared Fresh a right = Fresh
compared Counted a right = if eqb a code₁ && right then Half else Fresh
compared Half a right = if eqb a code₂ && right then Open else Fresh
compared Open a right = Open

-- how far the code has been given then
abbrev pub stage_after : Card → Command → ℕ → ℕ → Stage
stage_after c Count a d = counted c.stage (spends c.cells c.bits a d)
stage_after c Compare a d = compared c.stage a (eqb (cell_at c.cells a) d)
stage_after c WriteWithBit a d = anew c.stage
stage_after c Write a d = anew c.stage
stage_after c Protect a d = anew c.stage
stage_after c ReadWithBit a d = anew c.stage
stage_after c Read a d = anew c.stage
stage_after c Ignored a d = anew c.stage

-- one command done
unfoldable pub commanded : Card → Command → ℕ → ℕ → Card
commanded c k a d = card (stage_after c k a d) (cells_after c k a d) (bits_after c k a d)

-- ---- what a command answers

-- a read tells the cell, but of the code 00h until it has passed
abbrev pub told : Stage → List ℕ → ℕ → ℕ
told s cells a = if is_open s || ltb a code₁ then cell_at cells a else 0x00

-- "Each command answers one byte, the cell for a read and FFh otherwise; a read with protect bit answers a second byte, 00h or 01h."
abbrev pub answer_of : Card → Command → ℕ → List ℕ
answer_of c Read a = told c.stage c.cells a ∷ []
answer_of c ReadWithBit a = told c.stage c.cells a ∷ bit_at c.bits a ∷ []
answer_of c WriteWithBit a = 0xFF ∷ []
answer_of c Write a = 0xFF ∷ []
answer_of c Protect a = 0xFF ∷ []
answer_of c Count a = 0xFF ∷ []
answer_of c Compare a = 0xFF ∷ []
answer_of c Ignored a = 0xFF ∷ []

-- its length
abbrev pub answer_length : Command → ℕ
answer_length ReadWithBit = 2
answer_length WriteWithBit = 1
answer_length Write = 1
answer_length Protect = 1
answer_length Read = 1
answer_length Count = 1
answer_length Compare = 1
answer_length Ignored = 1

-- ---- a record

-- the command that three bytes are
abbrev pub sent : ℕ → ℕ → Command
sent first second = command_of (first % 64) (address_of first second)

-- power lost undoes the steps and the passing, and keeps cells and bits
abbrev pub unpowered : Card → Card
unpowered c = card Fresh c.cells c.bits

-- one record done
unfoldable pub step : Card → Record → Card
step c (Sent first second third) = commanded c (sent first second) (address_of first second) third
step c Power = unpowered c

-- the output room that a record takes
abbrev pub takes : Record → ℕ
takes (Sent first second third) = answer_length (sent first second)
takes Power = 0

-- the bytes that a record puts out
abbrev pub puts : Card → Record → List ℕ
puts c (Sent first second third) = answer_of c (sent first second) (address_of first second)
puts c Power = []

-- some records done, one after another
unfoldable pub run : Card → List Record → Card
run c [] = c
run c (e ∷ es) = run (step c e) es
