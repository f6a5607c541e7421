-- The checks and what follows them, as the caller sees it; and a log of one record: refused for its level, for want of room, or done.
use mathlib.Core.Bool.{true, false}
use mathlib.Core.List.{List, [], ◌∷◌, append-nil}
use mathlib.Core.Path.{◌≡◌, refl, sym, ap, subst, ◌∙◌}
use native.Mathlib.Nat.{zero-add}
use Prim.Native.Nat.{ℕ, suc, ◌+◌, ◌-◌, ◌≤◌, ◌<◌}
use native.Mathlib.Omega.{arith}
use lib.Dec.{T}
use lib.ListN.{length, drop, drop_of_length-le}
use Rattle.part.specs.declared.Geometry.{Geometry}
use Rattle.part.proofs.Choice.{true_T}
use Rattle.buslog.specs.Log.{bytes_of, level_sound, written}
use Rattle.buslog.specs.Read.{ends, found, front, parse}
use Rattle.buslog.specs.Write.{length_of, over}
use Rattle.buslog.specs.declared.Record.{Record}
use Rattle.buslog.specs.declared.Record.TheVariants.{Select, Shift, Deselect, Units, Level, Power}
use Rattle.buslog.specs.declared.Why.TheVariants as why
use Rattle.buslog.proofs.Logs.{body_of, front_written, length_written}
use Rattle.device.specs.Machine.{Machine}
use Rattle.device.specs.Work.{Array}
use Rattle.device.specs.Step.{step, run}
use Rattle.device.specs.declared.State.{State}
use Rattle.refusals.specs.Refusals.{passed, checked_as}
use Rattle.walk.specs.Turns.{takes, puts, nothing}
use Rattle.walk.specs.declared.Answer.{Answer}
use Rattle.model.specs.Runs.{Outcome, and_then, bytes_out, did, ran_of, run_of, End, seen, shown}
use Rattle.refusals.specs.declared.Refusal.{Refusal}
use Rattle.refusals.specs.declared.Refusal.TheVariants.{Done, BadLevel, NoRoom}
use Rattle.model.proofs.Rooms.{puts_length, did_parts, left_ends, left_full, left_next}

not_so : true ≡ false → ⊥
not_so e = subst T e tt

-- what stands at the front of a record's bytes
front_bad : (e : Record) → level_sound e ≡ false → front (bytes_of e) ≡ ends why.BadLevel
unfolding front
front_bad (Level v) p = rw p
front_bad Select p = absurd (not_so p)
front_bad (Shift b) p = absurd (not_so p)
front_bad Deselect p = absurd (not_so p)
front_bad (Units n) p = absurd (not_so p)
front_bad Power p = absurd (not_so p)

front_good : (e : Record) → level_sound e ≡ true → front (bytes_of e) ≡ found e (body_of e)
front_good e p = ap front (sym (append-nil (bytes_of e))) ∙ front_written e (true_T (level_sound e) p) []

-- and behind them is nothing
front_over : (e : Record) → front (drop (0 + suc (body_of e)) (bytes_of e)) ≡ ends why.End
unfolding front
front_over e = rw (drop_of_length-le (bytes_of e) {i = 0 + suc (body_of e)} (omega (arith, length_written e)))

module _ (g : Geometry) (arr : Array) (room : ℕ) (e : Record) (m : Machine) where
  pub single_bad : level_sound e ≡ false → ran_of g arr room (parse (bytes_of e)) m ≡ did g arr m BadLevel []
  single_bad p = left_ends g arr room (bytes_of e) 0 m why.BadLevel (front_bad e p)

  pub single_full : level_sound e ≡ true → room < takes e → ran_of g arr room (parse (bytes_of e)) m ≡ did g arr m NoRoom []
  single_full p k = left_full g arr room (bytes_of e) 0 m e (body_of e) (front_good e p) k

  pub single_done : level_sound e ≡ true → takes e ≤ room → ran_of g arr room (parse (bytes_of e)) m ≡ did g arr m Done (e ∷ [])
  unfolding run
  single_done p k =
      left_next g arr room (bytes_of e) 0 m e (body_of e) (front_good e p) k
      ∙ ap (and_then (did g arr m Done (e ∷ []))) (left_ends g arr (room - takes e) (bytes_of e) (0 + suc (body_of e)) (step g arr m e) why.End (front_over e))
      ∙ sym (did_parts g arr m Done Done (e ∷ []) [])

-- ---- what the caller then sees

module _ (g : Geometry) (arr : Array) (out : List ℕ) (m : Machine) where
  -- the machine x and the output o, with an answer
  abbrev pub with_answer : Answer → Machine → List ℕ → End
  with_answer a x o = seen a x.store.cells x.store.cache x.counts o

  shown_none : (r : Refusal) → with_answer (nothing r m.state) m out ≡ shown (did g arr m r []) out
  unfolding run bytes_out written
  shown_none r = refl

  -- one record done, its output laid at the front
  abbrev one : Record → State → Answer
  one e s = record { refusal = Done; state = s; records = 1; used = length_of e; written = takes e }

  shown_one : (e : Record) → with_answer (one e (step g arr m e).state) (step g arr m e) (over out 0 (puts g m e)) ≡ shown (did g arr m Done (e ∷ [])) out
  unfolding run bytes_out written over
  shown_one e = rw (append-nil (bytes_of e), append-nil (puts g m e), zero-add (length (puts g m e)), puts_length g arr m e)

  -- the checks refuse
  pub run_refused : (room : ℕ) (log : List ℕ) (k : Refusal) → k ≡ checked_as g m → passed k ≡ false → with_answer (nothing k m.state) m out ≡ shown (run_of g arr room log m) out
  unfolding run_of
  run_refused room log k p q = shown_none k ∙ rw (← p, q)

  -- they pass, and a run is the run of its records
  run_passed : (room : ℕ) (log : List ℕ) (k : Refusal) → k ≡ checked_as g m → passed k ≡ true → run_of g arr room log m ≡ ran_of g arr room (parse log) m
  unfolding run_of
  run_passed room log k p q = rw (← p, q)

  pub run_ran : (room : ℕ) (log : List ℕ) (k : Refusal) → k ≡ checked_as g m → passed k ≡ true → (x : End) → x ≡ shown (ran_of g arr room (parse log) m) out → x ≡ shown (run_of g arr room log m) out
  run_ran room log k p q x h = h ∙ ap (λ (o : Outcome). shown o out) (sym (run_passed room log k p q))

  -- one record: its level is bad, or it has no room, or it is done
  module _ (e : Record) (k : Refusal) (p : k ≡ checked_as g m) (q : passed k ≡ true) where
    alone : Outcome → Type 0
    alone o = ran_of g arr (length out) (parse (bytes_of e)) m ≡ o

    shown_alone : (o : Outcome) → alone o → shown o out ≡ shown (run_of g arr (length out) (bytes_of e) m) out
    unfolding alone
    shown_alone o h = ap (λ (x : Outcome). shown x out) (sym (run_passed (length out) (bytes_of e) k p q ∙ h))

    pub step_bad : level_sound e ≡ false → with_answer (nothing BadLevel m.state) m out ≡ shown (run_of g arr (length out) (bytes_of e) m) out
    unfolding alone
    step_bad h = shown_none BadLevel ∙ shown_alone _ (single_bad g arr (length out) e m h)

    pub step_full : level_sound e ≡ true → length out < takes e → with_answer (nothing NoRoom m.state) m out ≡ shown (run_of g arr (length out) (bytes_of e) m) out
    unfolding alone
    step_full h f = shown_none NoRoom ∙ shown_alone _ (single_full g arr (length out) e m h f)

    pub step_done : level_sound e ≡ true → takes e ≤ length out → (m₁ : Machine) (out₁ : List ℕ) → m₁ ≡ step g arr m e → out₁ ≡ over out 0 (puts g m e)
        → with_answer (one e m₁.state) m₁ out₁ ≡ shown (run_of g arr (length out) (bytes_of e) m) out
    unfolding alone
    step_done h f m₁ out₁ x y = rw (x, y) (shown_one e ∙ shown_alone _ (single_done g arr (length out) e m h f))
