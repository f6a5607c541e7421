-- What demand 3 asks of a log and of its start: each a test that can be computed. And which output bytes it leaves out.
use Rattle.std.specs.Prelude.{Bool, true, false, not, ◌&&◌, ◌||◌, List, [], ◌∷◌, ◌++◌, ℕ, eqb, leb}
use Rattle.part.specs.declared.Geometry.{Geometry}
use Rattle.buslog.specs.declared.Record.{Record}
use Rattle.buslog.specs.declared.Record.TheVariants.{Select, Shift, Deselect, Units, Level, Power}
use Rattle.array.specs.declared.Job.TheVariants.{Read, Program, Erase, Restart}
use Rattle.array.specs.declared.Work.{Work}
use Rattle.array.specs.declared.Work.TheVariants.{Idle, Busy}
use Rattle.registers.specs.declared.Registers.{Registers}
use Rattle.codes.specs.Codes.{no_byte, byte_of, instruction_of, open?}
use Rattle.transfer.specs.Transfer.{is, full, heard, body_heard, with_pins}
use Rattle.transfer.specs.declared.Bus.{Bus}
use Rattle.transfer.specs.declared.Transfer.{Transfer}
use Rattle.device.specs.Machine.{Machine, bus_in}
use Rattle.device.specs.Work.{Array, unitwise}
use Rattle.device.specs.Step.{power_up, step}
use Rattle.device.specs.declared.State.{State}

-- ---- the array is idle

abbrev pub rests : Work → Bool
rests Idle = true
rests (Busy j i) = false

abbrev pub idle : State → Bool
idle s = rests s.work

-- ---- each record, as it comes

-- a byte heard now is an instruction's first
abbrev pub first : Bus → Bool
first x = heard x && eqb x.transfer.count 0

-- no instruction has this byte
abbrev pub unknown : ℕ → Bool
unknown b = eqb (byte_of (instruction_of b)) no_byte

-- chip select, rising now, lets a reset take effect
abbrev pub resetting : Transfer → Bool
resetting t = t.selected && is t 0xFF && full t

-- each instruction other than Get Feature, Read ID and Reset has its first byte after select while the array is idle, and no reset or power
-- loss takes effect while it is busy
abbrev pub allowed : State → Record → Bool
allowed s (Shift b) = idle s || not (first s.bus) || open? b || unknown b
allowed s Deselect = idle s || not (resetting s.bus.transfer)
allowed s Power = idle s
allowed s Select = true
allowed s (Units n) = true
allowed s (Level v) = true

-- records are orderly along the unitwise run
unfoldable pub orderly : Geometry → Machine → List Record → Bool
orderly g m [] = true
orderly g m (e ∷ es) = allowed m.state e && orderly g (step g (unitwise g) m e) es

-- ---- the start: at power-up, or idle

-- the power-up state, WP# at a level
abbrev pub power_up_at : Bool → State
power_up_at wp = bus_in (with_pins (record { wp = wp }) power_up.bus) power_up

-- the read of row 0 has just begun
abbrev pub first_read : Work → Bool
first_read Idle = false
first_read (Busy (Read r) i) = eqb r.0 0 && eqb i 0
first_read (Busy (Program r) i) = false
first_read (Busy (Erase r) i) = false
first_read (Busy Restart i) = false

-- the registers have their power-up values, the transfer is as power-up leaves it
abbrev pub up_registers : Registers → Bool
up_registers r = eqb r.a0 0x38 && eqb r.b0 0x10 && eqb r.c0 0x01 && eqb r.d0 0x40

abbrev pub up_transfer : Transfer → Bool
up_transfer t =
    not t.selected && eqb t.count 0 && is t no_byte && eqb t.first 0 && eqb t.second 0 && eqb t.third 0 && eqb t.column.0 0

-- the state is the power-up state, WP# at either level
abbrev pub power_up? : State → Bool
power_up? s = up_registers s.regs && up_transfer s.bus.transfer && first_read s.work

abbrev pub starts : State → Bool
starts s = power_up? s || idle s

-- ---- the output

-- the byte on DO answers Get Feature of C0h
abbrev pub of_status : Bus → Bool
of_status x = let t = x.transfer in body_heard x && (is t 0x0F && leb 2 t.count) && eqb t.first 0xC0

abbrev pub asks : Machine → Record → List Bool
asks m (Shift b) = of_status m.state.bus ∷ []
asks m Select = []
asks m Deselect = []
asks m (Units n) = []
asks m (Level v) = []
asks m Power = []

-- for each shift of some records, in order: does it answer Get Feature of C0h?
unfoldable pub asked : Geometry → Array → Machine → List Record → List Bool
asked g arr m [] = []
asked g arr m (e ∷ es) = asks m e ++ asked g arr (step g arr m e) es
