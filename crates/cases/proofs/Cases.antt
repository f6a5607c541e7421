-- The cases hold, by computation.
use mathlib.Core.Path.{refl}
use Rattle.part.specs.Protection.{protects}
use Rattle.registers.specs.Registers.{register_written}
use Rattle.codes.specs.Codes.{instruction_of}
use Rattle.transfer.specs.Transfer.{selects, shifted_in, cached}
use Rattle.array.specs.Jobs.{written}
use Rattle.device.specs.Work.{unit_of, units, unitwise}
use Rattle.requests.specs.Requests.{program_fate, erase_fate}
use Rattle.device.specs.Instructions.{shifts, programs, erases, resets, effect, acted, deselects}
use Rattle.device.specs.Step.{off, powered, step, run}
use Rattle.cases.specs.Cases.{cases, AllCases}

pub all_cases : AllCases
unfolding cases protects register_written instruction_of selects shifted_in cached written unit_of units unitwise shifts program_fate erase_fate programs erases resets effect acted deselects off powered step run
all_cases = refl
