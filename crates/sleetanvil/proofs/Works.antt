-- Work is the run of its record, also of numbers that stand for no state.
use Rattle.std.specs.Prelude.{Option, Some, None}
use Rattle.device.specs.declared.State.{State}
use mathlib.Core.List.{[]}
use mathlib.Core.Path.{◌≡◌, refl, sym, ap}
use Rattle.buslog.specs.Log.{bytes_of}
use Rattle.buslog.specs.declared.Record.TheVariants.{Units}
use Rattle.device.specs.Machine.{machine}
use Rattle.part_numbers.specs.Numbers.{part_of}
use Rattle.face.specs.Face.{state_of, face_of}
use Rattle.model.specs.Runs.{Outcome, shown}
use Rattle.beside.proofs.Works.{work_one}
use Rattle.sleetanvil.specs.Promises.{WorkRecord}
use Rattle.sleetanvil.specs.Runs.{shown_as, ran_told, face_ran, unheard, worked_told, worked_of}

pub work_record : WorkRecord
unfolding worked_of face_ran
work_record g c n cells cache counts = go (state_of c)
  where
    go : (x : Option State) → worked_told g c x n cells cache counts ≡ unheard (ran_told g c x (bytes_of (Units n)) cells cache counts [])
    go (Some s) = ap (λ (o : Outcome). unheard (shown_as (face_of o.machine.state) (shown o []))) (sym (work_one (part_of g) (machine s cells cache counts) 0 n))
    go None = refl
