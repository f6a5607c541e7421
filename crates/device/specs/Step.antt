-- The step: what each record of the log does to the machine; and power lost and back.
use Rattle.std.specs.Prelude.{true, false, List, [], ◌∷◌, ℕ, eqb, length, replicate}
use Rattle.part.specs.declared.Geometry.{Geometry}
use Rattle.buslog.specs.declared.Record.{Record}
use Rattle.buslog.specs.declared.Record.TheVariants.{Select, Shift, Deselect, Units, Level, Power}
use Rattle.array.specs.Jobs.{with_cache}
use Rattle.array.specs.declared.Job.TheVariants.{Read}
use Rattle.array.specs.declared.Work.TheVariants.{Idle}
use Rattle.registers.specs.Registers.{at_power_up}
use Rattle.registers.specs.declared.Pins.{Pins}
use Rattle.transfer.specs.Transfer.{fresh, selects, with_pins, with_transfer}
use Rattle.device.specs.declared.State.{State}
use Rattle.device.specs.Machine.{Machine, with_state, over_store, over_bus}
use Rattle.device.specs.Work.{Array, begun}
use Rattle.device.specs.Instructions.{shifts, deselects}

-- the level of WP# that a level record carries
abbrev pub pins_of : ℕ → Pins
pins_of v = record { wp = eqb v 1 }

-- power is lost: the operation is stopped, the registers take their power-up values, the chip is deselected, WP# keeps its level
abbrev pub stopped : State → State
stopped s = record { regs = at_power_up; bus = with_transfer (fresh false) s.bus; work = Idle }

-- and the cache becomes FFh; cells and counts outlive it
unfoldable pub off : Geometry → Machine → Machine
off g m = over_store (λ x. with_cache (replicate (length x.cache) 0xFF) x) (with_state (stopped m.state) m)

-- power is back: a read of row 0 begins
unfoldable pub powered : Geometry → Array → Machine → Machine
powered g arr m = arr.begin (Read (record { 0 = 0 })) (off g (arr.cut m))

-- the power-up state: this with WP# high
abbrev pub power_up : State
power_up =
    begun (Read (record { 0 = 0 }))
    (record { regs = at_power_up; bus = record { pins = record { wp = true }; transfer = fresh false }; work = Idle })

-- one record
unfoldable pub step : Geometry → Array → Machine → Record → Machine
step g arr m Select = over_bus selects m
step g arr m (Shift b) = shifts g b m
step g arr m Deselect = deselects g arr m
step g arr m (Units n) = arr.worked n m
step g arr m (Level v) = over_bus (with_pins (pins_of v)) m
step g arr m Power = powered g arr m

-- the records of a log, in order
unfoldable pub run : Geometry → Array → Machine → List Record → Machine
run g arr m [] = m
run g arr m (e ∷ es) = run g arr (step g arr m e) es
