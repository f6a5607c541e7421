-- The device state in plain numbers, as C has them: what they stand for, and the numbers of a state.
use Rattle.std.specs.Prelude.{Bool, false, ◌&&◌, ℕ, eqb, leb, if◌then◌else◌, Option, Some, None}
use Rattle.part.specs.declared.Geometry.{Geometry}
use Rattle.part.specs.declared.Row.{Row}
use Rattle.array.specs.declared.Job.{Job}
use Rattle.array.specs.declared.Job.TheVariants.{Read, Program, Erase, Restart}
use Rattle.array.specs.declared.Work.{Work}
use Rattle.array.specs.declared.Work.TheVariants.{Idle, Busy}
use Rattle.codes.specs.Codes.{byte_of}
use Rattle.transfer.specs.Transfer.{fresh}
use Rattle.codes.specs.declared.Instruction.{Instruction}
use Rattle.codes.specs.declared.Instruction.TheVariants.{Ignored, WriteEnable, WriteDisable, GetFeature, SetFeature, ReadId, PageRead, ReadCache, Load, LoadRandom, Execute, BlockErase, Reset}
use Rattle.device.specs.Sound.{sound_state}
use Rattle.device.specs.declared.State.{State}
use Rattle.face.specs.declared.CState.{CState}

-- ---- what a state's numbers stand for

-- the instruction of a code; a code that no instruction has stands for none
abbrev pub instruction_at : ℕ → Option Instruction
instruction_at k =
    if eqb k 256 then Some Ignored
    else if eqb k 0x06 then Some WriteEnable
    else if eqb k 0x04 then Some WriteDisable
    else if eqb k 0x0F then Some GetFeature
    else if eqb k 0x1F then Some SetFeature
    else if eqb k 0x9F then Some ReadId
    else if eqb k 0x13 then Some PageRead
    else if eqb k 0x03 then Some ReadCache
    else if eqb k 0x02 then Some Load
    else if eqb k 0x84 then Some LoadRandom
    else if eqb k 0x10 then Some Execute
    else if eqb k 0xD8 then Some BlockErase
    else if eqb k 0xFF then Some Reset
    else None

-- a row by its number
abbrev pub row : ℕ → Row
row r = record { 0 = r }

-- the operation: 0 none, and then no row and no units; 1 read, 2 program, 3 erase; 4 reset, and then no row
abbrev pub work_at : ℕ → ℕ → ℕ → Option Work
work_at job r units =
    if eqb job 0 then (if eqb r 0 then (if eqb units 0 then Some Idle else None) else None)
    else if eqb job 1 then Some (Busy (Read (row r)) units)
    else if eqb job 2 then Some (Busy (Program (row r)) units)
    else if eqb job 3 then Some (Busy (Erase (row r)) units)
    else if eqb job 4 then (if eqb r 0 then Some (Busy Restart units) else None)
    else None

-- the state with an instruction and an operation; 1 is a flag that is set
abbrev pub state_as : CState → Instruction → Work → State
state_as c i w =
    record {
      regs = record { a0 = c.a0; b0 = c.b0; c0 = c.c0; d0 = c.d0 };
      bus =
          record {
            pins = record { wp = eqb c.wp 1 };
            transfer =
                record {
                  selected = eqb c.selected 1;
                  count = c.count;
                  instruction = i;
                  first = c.first;
                  second = c.second;
                  third = c.third;
                  column = record { 0 = c.column };
                };
          };
      work = w;
    }

-- a flag is 0 or 1
abbrev pub flags_good : CState → Bool
flags_good c = leb c.wp 1 && leb c.selected 1

-- with an operation and good flags there is a state
abbrev pub told_work : CState → Instruction → Option Work → Option State
told_work c i (Some w) = if flags_good c then Some (state_as c i w) else None
told_work c i None = None

-- with no instruction there is none
abbrev pub told_code : CState → Option Instruction → Option Work → Option State
told_code c (Some i) d = told_work c i d
told_code c None d = None

-- the state that the numbers stand for, if they stand for one
unfoldable pub state_of : CState → Option State
state_of c = told_code c (instruction_at c.instruction) (work_at c.job c.row c.units)

-- ---- from a state to its numbers

-- a flag as a number
abbrev pub flag : Bool → ℕ
flag b = if b then 1 else 0

-- the numbers of a state whose operation has these
abbrev pub faced : State → ℕ → ℕ → ℕ → CState
faced s job r units =
    let t = s.bus.transfer in
    record {
      a0 = s.regs.a0;
      b0 = s.regs.b0;
      c0 = s.regs.c0;
      d0 = s.regs.d0;
      wp = flag s.bus.pins.wp;
      selected = flag t.selected;
      count = t.count;
      first = t.first;
      second = t.second;
      third = t.third;
      job = job;
      instruction = byte_of t.instruction;
      column = t.column.0;
      row = r;
      units = units;
    }

-- the same by the job
abbrev pub faced_job : State → Job → ℕ → CState
faced_job s (Read r) units = faced s 1 r.0 units
faced_job s (Program r) units = faced s 2 r.0 units
faced_job s (Erase r) units = faced s 3 r.0 units
faced_job s Restart units = faced s 4 0 units

-- and idle, without row and units
abbrev pub faced_work : State → Work → CState
faced_work s Idle = faced s 0 0 0
faced_work s (Busy j units) = faced_job s j units

-- the numbers of a state
unfoldable pub face_of : State → CState
face_of s = faced_work s s.work

-- ---- whether they stand for a sound state

-- no state is not sound
abbrev pub sound_told : Geometry → Option State → Bool
sound_told g (Some s) = sound_state g s
sound_told g None = false

-- ---- numbers that stand for no state: a state stands in for them, and they are given back as they came

-- a state that is sound on no part: its status register has bits above bit 3
abbrev pub no_state : State
no_state = record { regs = record { a0 = 0; b0 = 0; c0 = 0xF0; d0 = 0 }; bus = record { pins = record { wp = false }; transfer = fresh false }; work = Idle }

-- the state to run
abbrev pub stand_in : Option State → State
stand_in (Some s) = s
stand_in None = no_state

-- the numbers to give back: those of the state after, or those that came
abbrev pub handed_back : Option State → CState → State → CState
handed_back (Some s) c after = face_of after
handed_back None c after = c
