-- Numbers that stand for no state: the stand-in is sound on no part, so that a run of it does nothing.
use Rattle.std.specs.Prelude.{Option, Some, None}
use mathlib.Core.Bool.{Bool, true, false, cond, not}
use mathlib.Core.List.{List, []}
use mathlib.Core.Path.{◌≡◌, refl, sym, ◌∙◌, ap}
use Prim.Native.Nat.{ℕ, ◌*◌}
use lib.Dec.{eqb}
use lib.ListN.{length}
use Rattle.std.specs.Prelude.{Err}
use Rattle.part.specs.Part.{page, rows, sound_part}
use Rattle.part.specs.declared.Geometry.{Geometry}
use Rattle.device.specs.Machine.{machine}
use Rattle.device.specs.Work.{unitwise}
use Rattle.device.specs.declared.State.{State}
use Rattle.part_numbers.specs.Numbers.{part_of}
use Rattle.face.specs.Face.{state_of, no_state, stand_in, handed_back}
use Rattle.part_numbers.specs.declared.CGeometry.{CGeometry}
use Rattle.face.specs.declared.CState.{CState}
use Rattle.face.proofs.ThereAndBack.{never_sound}
use Rattle.refusals.specs.Refusals.{number_of, line_of, check_of, passed}
use Rattle.walk.specs.Turns.{nothing}
use Rattle.model.specs.Runs as model
use Rattle.model.specs.Runs.{End, run_of, shown}
use Rattle.refusals.specs.declared.Refusal.TheVariants.{BadPart, BadCells, BadCache, BadCounts, BadState}
use Rattle.model.proofs.Single.{run_refused}
use Rattle.exchange.specs.Exchange.{unlogged}
use Rattle.beside.specs.Beside.{work_of}
use Rattle.beside.proofs.Works.{work_refused}
use Rattle.whole.specs.Demand.{given}
use Rattle.orderly.specs.Judge.{Judgement, judgement_of}
use Rattle.sleetanvil.specs.Promises.{BadExactly}
use Rattle.sleetanvil.specs.Runs.{CEnd, CJudgement, shown_as, ran_told, face_ran, unheard, face_unlogged, worked_told, worked_of, judged_told, judged_of, orderly_of}

-- the checks, with the last one out
stops_at : (g : Geometry) (cells cache counts : ℕ) →
    check_of g no_state cells cache counts
    ≡ cond (not (sound_part g)) (Err BadPart) (cond (not (eqb cells (rows g * page g))) (Err BadCells) (cond (not (eqb cache (page g))) (Err BadCache) (cond (not (eqb counts (rows g))) (Err BadCounts) (Err BadState))))
unfolding check_of
stops_at g cells cache counts = rw (never_sound g)

-- they refuse it
stops : (g : Geometry) (cells cache counts : ℕ) → passed (line_of (check_of g no_state cells cache counts)) ≡ false
stops g cells cache counts = rw (stops_at g cells cache counts) (go (sound_part g) (eqb cells (rows g * page g)) (eqb cache (page g)) (eqb counts (rows g)))
  where
    go : (a b c d : Bool) → passed (line_of {A = Unit {0}} (cond (not a) (Err BadPart) (cond (not b) (Err BadCells) (cond (not c) (Err BadCache) (cond (not d) (Err BadCounts) (Err BadState)))))) ≡ false
    go false b c d = refl
    go true false c d = refl
    go true true false d = refl
    go true true true false = refl
    go true true true true = refl

pub bad_exactly : BadExactly
bad_exactly g cells cache counts = rw (stops_at g cells cache counts) (go (sound_part g) (eqb cells (rows g * page g)) (eqb cache (page g)) (eqb counts (rows g)))
  where
    go : (a b c d : Bool) → number_of (line_of {A = Unit {0}} (cond (not a) (Err BadPart) (cond (not b) (Err BadCells) (cond (not c) (Err BadCache) (cond (not d) (Err BadCounts) (Err BadState)))))) ≡ cond (not a) 1 (cond (not b) 2 (cond (not c) 3 (cond (not d) 4 5)))
    go false b c d = refl
    go true false c d = refl
    go true true false d = refl
    go true true true false = refl
    go true true true true = refl

-- so a run of it does nothing
pub not_run : (g : Geometry) (room : ℕ) (log cells cache counts out : List ℕ) →
    shown (run_of g (unitwise g) room log (machine no_state cells cache counts)) out
    ≡ model.seen (nothing (line_of (check_of g no_state (length cells) (length cache) (length counts))) no_state) cells cache counts out
not_run g room log cells cache counts out =
    sym (run_refused g (unitwise g) out (machine no_state cells cache counts) room log (line_of (check_of g no_state (length cells) (length cache) (length counts))) refl (stops g (length cells) (length cache) (length counts)))

-- nor does work
not_worked : (g : Geometry) (n : ℕ) (cells cache counts : List ℕ) →
    shown (work_of g (unitwise g) n (machine no_state cells cache counts)) []
    ≡ model.seen (nothing (line_of (check_of g no_state (length cells) (length cache) (length counts))) no_state) cells cache counts []
not_worked g n cells cache counts =
    sym (work_refused g n (machine no_state cells cache counts) (line_of (check_of g no_state (length cells) (length cache) (length counts))) refl (stops g (length cells) (length cache) (length counts)))

-- ---- what the model answers, put right, is what the numbers stand for

-- the numbers that go back, beside the memory that a run left
abbrev pub put_right : Option State → CState → End → CEnd
put_right x c e = shown_as (handed_back x c e.answer.state) e

-- the same judged
abbrev pub judged_right : Option State → CState → Judgement → CJudgement
judged_right x c j = record { end = put_right x c j.end; orderly = orderly_of x j.orderly }

module _ (g : CGeometry) (c : CState) (log cells cache counts out : List ℕ) where
  ran_right : (x : Option State) →
      put_right x c (shown (run_of (part_of g) (unitwise (part_of g)) (length out) log (machine (stand_in x) cells cache counts)) out) ≡ ran_told g c x log cells cache counts out
  ran_right (Some s) = refl
  ran_right None = ap (put_right None c) (not_run (part_of g) (length out) log cells cache counts out)

  judged_right_lem : (x : Option State) → judged_right x c (judgement_of (given (part_of g) (stand_in x) log cells cache counts out)) ≡ judged_told g c x log cells cache counts out
  judged_right_lem (Some s) = refl
  judged_right_lem None = ap (λ (e : CEnd). record { end = e; orderly = false }) (ran_right None)

worked_right : (g : CGeometry) (c : CState) (n : ℕ) (cells cache counts : List ℕ) (x : Option State) →
    unheard (put_right x c (shown (work_of (part_of g) (unitwise (part_of g)) n (machine (stand_in x) cells cache counts)) [])) ≡ worked_told g c x n cells cache counts
worked_right g c n cells cache counts (Some s) = refl
worked_right g c n cells cache counts None = ap (λ (e : End). unheard (put_right None c e)) (not_worked (part_of g) n cells cache counts)

-- so it is with a call's own part and state
module _ (g : CGeometry) (c : CState) (log cells cache counts out : List ℕ) {x : Option State} {p : Geometry} {s : State} (hx : x ≡ state_of c) (hp : p ≡ part_of g) (hs : s ≡ stand_in x) where
  pub as_ran : {e : End} → e ≡ shown (run_of p (unitwise p) (length out) log (machine s cells cache counts)) out → put_right x c e ≡ face_ran g c log cells cache counts out
  unfolding face_ran
  as_ran h = rw (h, hs, hp, hx) (ran_right g c log cells cache counts out (state_of c))

  pub as_judged : {j : Judgement} → j ≡ judgement_of (given p s log cells cache counts out) → judged_right x c j ≡ judged_of g c log cells cache counts out
  unfolding judged_of
  as_judged h = rw (h, hs, hp, hx) (judged_right_lem g c log cells cache counts out (state_of c))

  -- with no log in between
  pub as_exchanged : {e : End} → e ≡ unlogged (shown (run_of p (unitwise p) (length out) log (machine s cells cache counts)) out) → put_right x c e ≡ face_unlogged (face_ran g c log cells cache counts out)
  as_exchanged h = ap (put_right x c) h ∙ ap face_unlogged (as_ran {e = shown (run_of p (unitwise p) (length out) log (machine s cells cache counts)) out} refl)

-- and with work
pub as_worked : (g : CGeometry) (c : CState) (n : ℕ) (cells cache counts : List ℕ) {x : Option State} {p : Geometry} {s : State} → x ≡ state_of c → p ≡ part_of g → s ≡ stand_in x
    → {e : End} → e ≡ shown (work_of p (unitwise p) n (machine s cells cache counts)) [] → unheard (put_right x c e) ≡ worked_of g c n cells cache counts
unfolding worked_of
as_worked g c n cells cache counts hx hp hs h = rw (h, hs, hp, hx) (worked_right g c n cells cache counts (state_of c))
