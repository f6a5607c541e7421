-- The rows hold, by computation.
use mathlib.Core.Path.{refl}
use Rattle.part.specs.Part.{sound_part}
use Rattle.part.specs.Protection.{protects}
use Rattle.registers.specs.Registers.{register, register_written}
use Rattle.buslog.specs.Log.{written}
use Rattle.buslog.specs.Read.{front, parse_after}
use Rattle.buslog.specs.Write.{over}
use Rattle.codes.specs.Codes.{instruction_of}
use Rattle.transfer.specs.Transfer.{selects, shifted_in, cached}
use Rattle.array.specs.Jobs as jobs
use Rattle.device.specs.Work.{unit_of, units, unitwise}
use Rattle.requests.specs.Requests.{program_fate, erase_fate}
use Rattle.device.specs.Instructions.{shifts, answer, programs, erases, resets, effect, acted, deselects}
use Rattle.device.specs.Step.{off, powered, step, run}
use Rattle.device.specs.Sound.{sound_state}
use Rattle.refusals.specs.Refusals.{check_of}
use Rattle.model.specs.Runs.{shifts_in, fitting, bytes_out, ran_of, run_of}
use Rattle.whole.specs.Whole.{ands, page_of, done, whole}
use Rattle.whole.specs.Orderly.{orderly}
use Rattle.whole.specs.Demand.{settled}
use Rattle.whole.specs.Examples.{rows, NoneToSpare}

pub none_to_spare : NoneToSpare
unfolding rows sound_part protects register register_written written front parse_after over instruction_of selects shifted_in cached jobs.written unit_of units unitwise shifts answer program_fate erase_fate programs erases resets effect acted deselects off powered step run sound_state check_of shifts_in fitting bytes_out ran_of run_of ands page_of done whole orderly settled
none_to_spare = refl
