-- What comes after a reset, from the law of n units of an operation; and its cases, by computation.
use mathlib.Core.Bool.{Bool, true, false, cond}
use mathlib.Core.Path.{◌≡◌, refl, ap, ◌∙◌}
use Prim.Native.Nat.{ℕ, ◌-◌, min}
use native.Mathlib.Nat.{zero-add}
use native.Mathlib.Omega.{arith}
use lib.Dec.{ltb}
use Rattle.part.specs.Protection.{protects}
use Rattle.part.specs.declared.Geometry.{Geometry}
use Rattle.registers.specs.Registers.{register_written, oip, oip_set, oip_cleared, reset_status}
use Rattle.codes.specs.Codes.{instruction_of, heard_as}
use Rattle.transfer.specs.Transfer.{ends, selects, shifted_in, cached}
use Rattle.codes.specs.declared.Instruction.TheVariants.{Reset}
use Rattle.array.specs.Jobs.{written}
use Rattle.array.specs.declared.Job.TheVariants.{Restart}
use Rattle.array.proofs.Stores.{restart_none}
use Rattle.requests.specs.Requests.{program_fate, erase_fate}
use Rattle.device.specs.Machine.{Machine, over_bus}
use Rattle.device.specs.Work.{begins, unit_of, units, unitwise}
use Rattle.device.specs.Instructions.{shifts, programs, erases, resets, effect, acted, deselects}
use Rattle.device.specs.Step.{off, powered, step, run}
use Rattle.device.proofs.Units.{units_busy}
use Rattle.cases.specs.AfterReset.{in_reset, after_reset, ResetTakes, ResetAgain, reset, ResetSent, reset_cases, AllResetCases}

-- ---- for every part and every machine

pub reset_takes : ResetTakes
unfolding resets unitwise
reset_takes g m n =
    let q : oip_cleared (oip_set (reset_status m.state.regs.c0)) ≡ reset_status m.state.regs.c0 = omega arith in
    units_busy g Restart n 0 (begins Restart (after_reset m)) (omega arith) refl ∙ rw (restart_none g (min n (8 - 0)) 0 m.store, zero-add n, q)

pub reset_again : ResetAgain
unfolding resets unitwise
reset_again g m n = ap (resets (unitwise g)) (reset_takes g m n) ∙ go (ltb n 8)
  where
    c : ℕ
    c = m.state.regs.c0

    go : (b : Bool) → resets (unitwise g) (cond b (in_reset n m) (after_reset m)) ≡ resets (unitwise g) m
    go true = let q : reset_status (oip_set (reset_status c)) ≡ reset_status c = omega arith in rw q
    go false = let q : reset_status (reset_status c) ≡ reset_status c = omega arith in rw q

-- FFh is a reset, busy or not
reset_heard : (busy : Bool) → heard_as busy 0xFF ≡ Reset
unfolding instruction_of
reset_heard true = refl
reset_heard false = refl

-- sent to a chip that is not selected it takes effect
takes_effect : (g : Geometry) (m : Machine) → m.state.bus.transfer.selected ≡ false → run g (unitwise g) m reset ≡ resets (unitwise g) (over_bus ends m)
unfolding run step selects shifts shifted_in cached deselects acted effect resets unitwise instruction_of
takes_effect g m e = rw (e, reset_heard (oip m.state.regs.c0))

pub reset_sent : ResetSent
unfolding run step unitwise
reset_sent g m n e = ap (units g n) (takes_effect g m e) ∙ reset_takes g (over_bus ends m) n

-- ---- the cases

pub all_reset_cases : AllResetCases
unfolding reset_cases protects register_written instruction_of selects shifted_in cached written unit_of units unitwise shifts program_fate erase_fate programs erases resets effect acted deselects off powered step run
all_reset_cases = refl
