-- Work of any length: what `work` answers case by case, that one work record answers the same, and that units add up over work records.
use mathlib.Core.Bool.{Bool, true, false, cond}
use mathlib.Core.List.{List, [], ◌∷◌}
use mathlib.Core.Path.{◌≡◌, refl, sym, ◌∙◌}
use Prim.Native.Nat.{ℕ, zero, suc, ◌+◌, ◌-◌}
use native.Mathlib.Nat.{zero-add}
use native.Mathlib.Omega.{arith}
use lib.Dec.{T}
use borrow.Author.Tests.{le-ltb}
use Rattle.part.specs.declared.Geometry.{Geometry}
use Rattle.buslog.specs.Log.{bytes_of, levels_sound, written}
use Rattle.buslog.specs.Read.{parse}
use Rattle.buslog.specs.declared.Record.TheVariants.{Units}
use Rattle.buslog.proofs.Logs.{parse_written}
use Rattle.device.specs.Machine.{Machine}
use Rattle.device.specs.Work.{Array, unit_of, units, unitwise}
use Rattle.device.specs.Step.{step, run}
use Rattle.device.specs.declared.State.{State}
use Rattle.refusals.specs.Refusals.{passed, checked_as}
use Rattle.refusals.specs.declared.Refusal.{Refusal}
use Rattle.refusals.specs.declared.Refusal.TheVariants.{Done}
use Rattle.walk.specs.Turns.{nothing}
use Rattle.walk.specs.declared.Answer.{Answer}
use Rattle.model.specs.Runs.{Outcome, bytes_out, did, fitting, ran_of, run_of, shifts_in, shown}
use Rattle.model.proofs.Single.{single_done, with_answer}
use Rattle.beside.specs.Beside.{work_of}
use Rattle.beside.specs.Promises.{works_of, together, WorkAdds, WorkOne}

-- ---- what the code has, case by case

-- the answer to work that was done
abbrev worked : State → Answer
worked s = record { refusal = Done; state = s; records = 1; used = 3; written = 0 }

module _ (g : Geometry) (n : ℕ) (m : Machine) (k : Refusal) (p : k ≡ checked_as g m) where
  pub work_refused : passed k ≡ false → with_answer g (unitwise g) [] m (nothing k m.state) m [] ≡ shown (work_of g (unitwise g) n m) []
  unfolding work_of run bytes_out written
  work_refused q = rw (← p, q)

  pub work_done : passed k ≡ true → (m₁ : Machine) → m₁ ≡ units g n m → with_answer g (unitwise g) [] m (worked m₁.state) m₁ [] ≡ shown (work_of g (unitwise g) n m) []
  unfolding work_of run bytes_out written step unitwise
  work_done q m₁ e = rw (← p, q, e)

-- ---- one work record

pub work_one : WorkOne
unfolding run_of work_of
work_one g m room n = go (passed (checked_as g m))
  where
    go : (b : Bool) →
        cond b (ran_of g (unitwise g) room (parse (bytes_of (Units n))) m) (did g (unitwise g) m (checked_as g m) [])
        ≡ cond b (did g (unitwise g) m Done (Units n ∷ [])) (did g (unitwise g) m (checked_as g m) [])
    go true = single_done g (unitwise g) room (Units n) m refl (omega arith)
    go false = refl

-- ---- several

-- some units and then some more
units_add : (g : Geometry) (a b : ℕ) (m : Machine) → units g (a + b) m ≡ units g b (units g a m)
unfolding units
units_add g zero b m = rw (zero-add b)
units_add g (suc a) b m = let e : suc a + b ≡ suc (a + b) = omega arith in rw e (units_add g a b (unit_of g m.state.work m))

-- work records do their units together
run_works : (g : Geometry) (m : Machine) (ns : List ℕ) → run g (unitwise g) m (works_of ns) ≡ units g (together ns) m
unfolding run step unitwise works_of together units
run_works g m [] = refl
run_works g m (n ∷ ns) = run_works g (units g n m) ns ∙ sym (units_add g n (together ns) m)

-- they put nothing out, take no room, and are read as they were written
works_sound : (ns : List ℕ) → T (levels_sound (works_of ns))
unfolding levels_sound works_of
works_sound [] = tt
works_sound (n ∷ ns) = works_sound ns

works_silent : (g : Geometry) (arr : Array) (m : Machine) (ns : List ℕ) → bytes_out g arr m (works_of ns) ≡ []
unfolding bytes_out works_of
works_silent g arr m [] = refl
works_silent g arr m (n ∷ ns) = works_silent g arr (step g arr m (Units n)) ns

works_small : (ns : List ℕ) → shifts_in (works_of ns) ≡ 0
unfolding shifts_in works_of
works_small [] = refl
works_small (n ∷ ns) = rw (zero-add (shifts_in (works_of ns))) (works_small ns)

works_fit : (room : ℕ) (ns : List ℕ) → fitting room (works_of ns) ≡ works_of ns
unfolding fitting works_of
works_fit room [] = refl
works_fit room (n ∷ ns) = let e : room - 0 ≡ room = omega arith in rw (le-ltb room 0 (omega arith), e, works_fit room ns)

-- so their log is run to its end
ran_works : (g : Geometry) (arr : Array) (m : Machine) (room : ℕ) (ns : List ℕ) → ran_of g arr room (parse (written (works_of ns))) m ≡ did g arr m Done (works_of ns)
unfolding ran_of
ran_works g arr m room ns = rw (parse_written (works_of ns) (works_sound ns), works_small ns, le-ltb room 0 (omega arith), works_fit room ns)

-- two outcomes that refuse alike, end alike and put out alike
abbrev Alike : Outcome → Outcome → Type 0
Alike o p = (o.refusal ≡ p.refusal) × (o.machine ≡ p.machine) × (o.output ≡ p.output)

pub work_adds : WorkAdds
unfolding run_of work_of run step unitwise bytes_out
work_adds g m room ns = go (passed (checked_as g m))
  where
    go : (b : Bool) →
        Alike (cond b (ran_of g (unitwise g) room (parse (written (works_of ns))) m) (did g (unitwise g) m (checked_as g m) []))
        (cond b (did g (unitwise g) m Done (Units (together ns) ∷ [])) (did g (unitwise g) m (checked_as g m) []))
    go true = rw (ran_works g (unitwise g) m room ns) (refl, run_works g m ns, works_silent g (unitwise g) m ns)
    go false = (refl, refl, refl)
