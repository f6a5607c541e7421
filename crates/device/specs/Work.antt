-- Document 01, "Work of the array": an operation begins, does its units and ends. (What a unit writes stands with the array.)
use Rattle.std.specs.Prelude.{ℕ, zero, suc, ltb, if◌then◌else◌}
use Rattle.part.specs.declared.Geometry.{Geometry}
use Rattle.array.specs.Jobs.{Store, length_of, written, Ready}
use Rattle.array.specs.declared.Job.{Job}
use Rattle.array.specs.declared.Work.{Work}
use Rattle.array.specs.declared.Work.TheVariants.{Idle, Busy}
use Rattle.device.specs.declared.State.{State}
use Rattle.device.specs.Machine.{Machine, with_state, work_in, status_in, with_work, over_store}
use Rattle.registers.specs.Registers.{oip_set, oip_cleared}

-- An array: what the beginning of an operation does, what a work record does, and what has to be settled before a reset or a power
-- loss stops an operation (nothing, for the arrays there are; it is named for one that works ahead or behind). All the rest of the
-- machine is written once, over it.
pub record Array : Type 0 where
  pub begin : Job → Machine → Machine
  pub worked : ℕ → Machine → Machine
  pub cut : Machine → Machine

-- OIP is 1 while an operation has units left: an operation begins, with no unit done
abbrev pub begun : Job → State → State
begun j s = work_in (Busy j 0) (status_in (oip_set s.regs.c0) s)

abbrev pub begins : Job → Machine → Machine
begins j m = with_state (begun j m.state) m

-- its last unit done, an operation leaves nothing of itself in the state (part and job are named for an end that does more)
abbrev pub ended_state : Job → State → State
ended_state j s = work_in Idle (status_in (oip_cleared s.regs.c0) s)

abbrev pub ended : Geometry → Job → Machine → Machine
ended g j m = with_state (ended_state j m.state) m

-- with i units done it is in progress, or at its end
abbrev pub reached : Geometry → Job → ℕ → Machine → Machine
reached g j i m = if ltb i (length_of g j) then with_work (Busy j i) m else ended g j m

-- one unit; with no operation in progress it does nothing
unfoldable pub unit_of : Geometry → Work → Machine → Machine
unit_of g Idle m = m
unit_of g (Busy j i) m = reached g j (suc i) (over_store (written g j i) m)

-- n units
unfoldable pub units : Geometry → ℕ → Machine → Machine
units g zero m = m
units g (suc n) m = units g n (unit_of g m.state.work m)

-- the state when the work of an operation has come so far, OIP with it
abbrev pub worked_state : Job → Work → State → State
worked_state j Idle s = ended_state j s
worked_state j (Busy k i) s = work_in (Busy k i) s

-- what the work may count on: with an operation in progress, all that the array asks
abbrev pub WorkReady : Geometry → Work → Store → Type 0
WorkReady g Idle s = Unit {0}
WorkReady g (Busy j i) s = Ready g j i s

-- the array of the datasheet: unit by unit, and nothing to settle at a cut
unfoldable pub unitwise : Geometry → Array
unitwise g = record { begin = begins; worked = units g; cut = λ m. m }
