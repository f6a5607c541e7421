-- A part that is not sound is turned away, whatever else is handed in; and so is a stepping above 1.
use Rattle.std.specs.Prelude.{Option, Some, None}
use mathlib.Core.Bool.{false}
use mathlib.Core.List.{List, []}
use mathlib.Core.Path.{◌≡◌, refl, sym, ◌∙◌, ap}
use Prim.Native.Nat.{ℕ}
use lib.ListN.{length}
use Rattle.std.specs.Prelude.{Err}
use Rattle.part.specs.Part.{sound_part}
use Rattle.part.specs.declared.Geometry.{Geometry}
use Rattle.buslog.specs.Log.{bytes_of}
use Rattle.buslog.specs.declared.Record.TheVariants.{Units}
use Rattle.device.specs.Machine.{machine}
use Rattle.device.specs.Work.{unitwise}
use Rattle.device.specs.declared.State.{State}
use Rattle.part_numbers.specs.Numbers.{part_of}
use Rattle.part_numbers.specs.declared.CGeometry.{CGeometry}
use Rattle.part_numbers.proofs.ThereAndBack.{no_such_stepping}
use Rattle.face.specs.Face.{state_of, face_of, no_state}
use Rattle.face.specs.declared.CState.{CState}
use Rattle.face.proofs.ThereAndBack.{face_back}
use Rattle.refusals.specs.Refusals.{line_of, check_of}
use Rattle.refusals.specs.declared.Refusal.TheVariants.{BadPart}
use Rattle.model.specs.Runs.{End}
use Rattle.model.proofs.Single.{run_refused}
use Rattle.sleetanvil.specs.Promises.{PartRefused, SteppingRefused}
use Rattle.sleetanvil.specs.Runs.{face_seen, face_nothing, shown_as, ran_told, face_ran, unheard, judged_told, judged_of}
use Rattle.sleetanvil.proofs.Works.{work_record}

-- the first check refuses it
part_stops : (g : Geometry) (s : State) (cells cache counts : ℕ) → sound_part g ≡ false → check_of g s cells cache counts ≡ Err BadPart
unfolding check_of
part_stops g s cells cache counts e = rw e

module _ (g : CGeometry) (c : CState) (log cells cache counts out : List ℕ) where
  ran_nothing : sound_part (part_of g) ≡ false → face_ran g c log cells cache counts out ≡ face_seen (face_nothing 1 c) cells cache counts out
  unfolding face_ran
  ran_nothing e = go (state_of c) refl
    where
      go : (x : Option State) → state_of c ≡ x → ran_told g c x log cells cache counts out ≡ face_seen (face_nothing 1 c) cells cache counts out
      go (Some s) q =
          ap (λ (e : End). shown_as (face_of e.answer.state) e)
          (sym (run_refused (part_of g) (unitwise (part_of g)) out (machine s cells cache counts) (length out) log BadPart (sym (ap line_of (part_stops (part_of g) s (length cells) (length cache) (length counts) e))) refl))
          ∙ ap (λ (d : CState). face_seen (face_nothing 1 d) cells cache counts out) (face_back c s q)
      go None q = rw (part_stops (part_of g) no_state (length cells) (length cache) (length counts) e)

  -- a run that is judged ends as the run does
  judged_end : (judged_of g c log cells cache counts out).end ≡ face_ran g c log cells cache counts out
  unfolding face_ran judged_of
  judged_end = go (state_of c)
    where
      go : (x : Option State) → (judged_told g c x log cells cache counts out).end ≡ ran_told g c x log cells cache counts out
      go (Some s) = refl
      go None = refl

pub part_refused : PartRefused
part_refused g e c cells cache counts = (
  λ log out. ran_nothing g c log cells cache counts out e,
  λ log out. judged_end g c log cells cache counts out ∙ ran_nothing g c log cells cache counts out e,
  λ n. work_record g c n cells cache counts ∙ ap unheard (ran_nothing g c (bytes_of (Units n)) cells cache counts [] e),
)

pub stepping_refused : SteppingRefused
stepping_refused g h = part_refused g (no_such_stepping g h)
