-- Each refusal has the effect that the table names.
use mathlib.Core.List.{List, []}
use mathlib.Core.Path.{◌≡◌, refl, sym, ap, ◌∙◌}
use Prim.Native.Nat.{ℕ, ◌≤◌}
use native.Mathlib.Omega.{arith}
use lib.Dec.{ltb}
use lib.ListN.{take}
use Rattle.part.specs.declared.Geometry.{Geometry}
use Rattle.part.proofs.Choice.{cond_keep}
use Rattle.buslog.specs.Read.{parse}
use Rattle.buslog.specs.declared.Why.{Why}
use Rattle.buslog.specs.declared.Why.TheVariants as why
use Rattle.buslog.specs.declared.Record.{Record}
use Rattle.device.specs.Machine.{Machine}
use Rattle.device.specs.Work.{Array}
use Rattle.device.specs.Step.{run}
use Rattle.refusals.specs.Refusals.{number_of, refusal_of, passed, checked_as}
use Rattle.model.specs.Runs.{shifts_in, Outcome, did, ran_of, run_of}
use Rattle.refusals.specs.declared.Refusal.{Refusal}
use Rattle.refusals.specs.declared.Refusal.TheVariants.{Done, BadKind, ShortBody, BadLevel, NoRoom}
use Rattle.answers.specs.Table.{Stops, Full, Line, read_to_its_end, geometry_not_sound, cells_wrong, cache_wrong, counts_wrong, state_not_sound, kind_not_in_table, ends_inside_body, level_above_1, no_room_left}
use Rattle.answers.specs.Promises.{NothingDone, FoldOfStep, Effects}
use Rattle.answers.proofs.Records.{fitting_first}
use Rattle.answers.proofs.Logs.{ends_number}
use Rattle.answers.proofs.Lines.{is_stop, is_full, exactly}

module _ (g : Geometry) (arr : Array) (room : ℕ) (log : List ℕ) (m : Machine) where
  -- the records done, with the refusal that the run gives
  given : (r : Refusal) (es : List Record) → run_of g arr room log m ≡ did g arr m r es → run_of g arr room log m ≡ did g arr m (run_of g arr room log m).refusal es
  given r es p = p ∙ ap (λ (r : Refusal). did g arr m r es) (sym (ap (λ (o : Outcome). o.refusal) p))

  -- what a log is read to is none of the checks' refusals
  ran_high : 1 ≤ number_of (ran_of g arr room (parse log) m).refusal → number_of (ran_of g arr room (parse log) m).refusal ≤ 5 → ⊥
  unfolding ran_of
  ran_high = cond_keep High (ltb room (shifts_in (parse log).records)) (λ e a b. omega arith) (λ e. go (parse log).why)
    where
      High : Refusal → Type 0
      High r = 1 ≤ number_of r → number_of r ≤ 5 → ⊥

      go : (w : Why) → High (refusal_of w)
      go why.End a b = omega arith
      go why.BadKind a b = omega arith
      go why.ShortBody a b = omega arith
      go why.BadLevel a b = omega arith

  -- 1 to 5
  nothing_done : NothingDone g arr room log m
  unfolding run_of
  nothing_done = cond_keep Nothing (passed (checked_as g m)) (λ e a b. absurd (ran_high a b)) (λ e a b. refl)
    where
      Nothing : Outcome → Type 0
      Nothing o = 1 ≤ number_of o.refusal → number_of o.refusal ≤ 5 → o ≡ did g arr m o.refusal []

  -- 0, 6, 7 and 8; with another number no log stops
  stops_before : (n : ℕ) → Line g room log m n → (s : Stops log room n) → run_of g arr room log m ≡ did g arr m (run_of g arr room log m).refusal s.earlier
  stops_before n (read_to_its_end f t) s = given Done s.earlier (is_stop g arr room log m f why.End s)
  stops_before n (kind_not_in_table f t) s = given BadKind s.earlier (is_stop g arr room log m f why.BadKind s)
  stops_before n (ends_inside_body f t) s = given ShortBody s.earlier (is_stop g arr room log m f why.ShortBody s)
  stops_before n (level_above_1 f t) s = given BadLevel s.earlier (is_stop g arr room log m f why.BadLevel s)
  stops_before n (geometry_not_sound p) s = absurd ((ends_number s.next).0 (omega arith) (omega arith))
  stops_before n (cells_wrong p q) s = absurd ((ends_number s.next).0 (omega arith) (omega arith))
  stops_before n (cache_wrong p q) s = absurd ((ends_number s.next).0 (omega arith) (omega arith))
  stops_before n (counts_wrong p q) s = absurd ((ends_number s.next).0 (omega arith) (omega arith))
  stops_before n (state_not_sound p q) s = absurd ((ends_number s.next).0 (omega arith) (omega arith))
  stops_before n (no_room_left f t) s = absurd (omega (arith, (ends_number s.next).1))

  -- 9
  full_before : Line g room log m 9 → (s : Full log room) → run_of g arr room log m ≡ did g arr m (run_of g arr room log m).refusal s.earlier
  full_before (no_room_left f t) s = given NoRoom s.earlier (is_full g arr room log m f s)

  -- the records done are the first of those that were read
  fold_of_step : FoldOfStep g arr room log m
  unfolding run_of ran_of
  fold_of_step =
      cond_keep Fold (passed (checked_as g m)) {x = ran_of g arr room (parse log) m} {y = did g arr m (checked_as g m) []}
      (λ e. ap (run g arr m) (sym (fitting_first room (parse log).records))) (λ e. refl)
    where
      Fold : Outcome → Type 0
      Fold o = o.machine ≡ run g arr m (take o.records (parse log).records)

pub effects : Effects
effects g arr room log h m = (
  nothing_done g arr room log m,
  λ n p s. stops_before g arr room log m n ((exactly g arr room log h m n).0 p) s,
  λ p s. full_before g arr room log m ((exactly g arr room log h m 9).0 p) s,
  fold_of_step g arr room log m,
)
