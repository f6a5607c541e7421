-- An event that is no shift takes no output room, so that it is the same whatever output is lent.
use Rattle.std.specs.Prelude.{Option, Some, None}
use Rattle.device.specs.declared.State.{State}
use mathlib.Core.Bool.{Bool, true, false}
use mathlib.Core.List.{[]}
use mathlib.Core.Path.{◌≡◌, refl, sym, ap, ◌∙◌}
use Prim.Native.Nat.{ℕ}
use native.Mathlib.Omega.{arith}
use lib.ListN.{length}
use Rattle.part.specs.declared.Geometry.{Geometry}
use Rattle.buslog.specs.Log.{bytes_of, level_sound}
use Rattle.buslog.specs.Read.{parse}
use Rattle.buslog.specs.declared.Record.{Record}
use Rattle.device.specs.Machine.{Machine, machine}
use Rattle.device.specs.Work.{Array, unitwise}
use Rattle.part_numbers.specs.Numbers.{part_of}
use Rattle.face.specs.Face.{state_of, face_of}
use Rattle.model.specs.Runs as model
use Rattle.walk.specs.Turns.{takes}
use Rattle.model.specs.Runs.{Outcome, run_of, shown}
use Rattle.model.proofs.Single.{single_bad, single_done}
use Rattle.sleetanvil.specs.Promises.{AnyOutput}
use Rattle.sleetanvil.specs.Runs.{shown_as, ran_told, face_ran, unheard}

module _ (g : Geometry) (arr : Array) (room : ℕ) (e : Record) (m : Machine) (free : takes e ≡ 0) where
  ran : model.ran_of g arr room (parse (bytes_of e)) m ≡ model.ran_of g arr 0 (parse (bytes_of e)) m
  ran = go (level_sound e) refl
    where
      go : (b : Bool) → level_sound e ≡ b → model.ran_of g arr room (parse (bytes_of e)) m ≡ model.ran_of g arr 0 (parse (bytes_of e)) m
      go true p = single_done g arr room e m p (omega arith) ∙ sym (single_done g arr 0 e m p (omega arith))
      go false p = single_bad g arr room e m p ∙ sym (single_bad g arr 0 e m p)

  any_room : run_of g arr room (bytes_of e) m ≡ run_of g arr 0 (bytes_of e) m
  unfolding run_of
  any_room = rw ran

pub any_output : AnyOutput
unfolding face_ran
any_output g c e cells cache counts out free = go (state_of c)
  where
    go : (x : Option State) → unheard (ran_told g c x (bytes_of e) cells cache counts out) ≡ unheard (ran_told g c x (bytes_of e) cells cache counts [])
    go (Some s) = ap (λ (o : Outcome). unheard (shown_as (face_of o.machine.state) (shown o out))) (any_room (part_of g) (unitwise (part_of g)) (length out) e (machine s cells cache counts) free)
    go None = refl
