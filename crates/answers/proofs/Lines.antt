-- The table holds, line by line, in both directions.
use mathlib.Core.Bool.{false}
use mathlib.Core.List.{List, [], ◌∷◌, ◌++◌}
use mathlib.Core.Path.{◌≡◌, refl, ap, subst, ◌∙◌}
use Prim.Native.Nat.{ℕ, ◌<◌}
use native.Mathlib.Omega.{arith}
use lib.Dec.{ltb}
use borrow.Author.Tests.{lt-ltb, le-ltb, ltb-true, ltb-false}
use Rattle.part.specs.declared.Geometry.{Geometry}
use Rattle.part.proofs.Choice.{cond_keep}
use Rattle.buslog.specs.Log.{Bytes}
use Rattle.buslog.specs.Read.{why_number, parse}
use Rattle.buslog.specs.declared.Why.{Why}
use Rattle.buslog.specs.declared.Why.TheVariants as why
use Rattle.buslog.specs.declared.Record.TheVariants.{Shift}
use Rattle.device.specs.Machine.{Machine}
use Rattle.device.specs.Work.{Array}
use Rattle.refusals.specs.Refusals.{number_of, refusal_of, passed, checked_as}
use Rattle.model.specs.Runs.{shifts_in, Outcome, did, ran_of, run_of}
use Rattle.refusals.specs.declared.Refusal.{Refusal}
use Rattle.refusals.specs.declared.Refusal.TheVariants.{Done, BadPart, BadCells, BadCache, BadCounts, BadState, BadKind, ShortBody, BadLevel, NoRoom}
use Rattle.model.proofs.Rooms.{shifts_append, fitting_all, fitting_full}
use Rattle.answers.specs.Table.{Fine, Stops, Full, Line, read_to_its_end, geometry_not_sound, cells_wrong, cache_wrong, counts_wrong, state_not_sound, kind_not_in_table, ends_inside_body, level_above_1, no_room_left}
use Rattle.answers.specs.Promises.{Exactly}
use Rattle.answers.proofs.Logs.{stops_parse, full_parse, parse_stops, parse_full}
use Rattle.answers.proofs.Checks.{Checked, checked, checked_only, fine}

module _ (g : Geometry) (arr : Array) (room : ℕ) (log : List ℕ) (m : Machine) where
  -- ---- the run, where it is known what is refused

  -- 1 to 5: nothing is done
  is_refused : (r : Refusal) → passed r ≡ false → Checked g m r → run_of g arr room log m ≡ did g arr m r []
  unfolding run_of
  is_refused r p h = rw (checked_only g m r h, p)

  pub is_fine : Fine g m → run_of g arr room log m ≡ ran_of g arr room (parse log) m
  unfolding run_of
  is_fine f = rw (checked_only g m Done f)

  -- 0, 6, 7 and 8: the records that stand before
  pub is_stop : Fine g m → (w : Why) (s : Stops log room (why_number w)) → run_of g arr room log m ≡ did g arr m (refusal_of w) s.earlier
  unfolding ran_of
  is_stop f w s = is_fine f ∙ rw (stops_parse log room w s, le-ltb room (shifts_in s.earlier) s.roomy, fitting_all room s.earlier s.roomy)

  -- 9
  pub is_full : Fine g m → (s : Full log room) → run_of g arr room log m ≡ did g arr m NoRoom s.earlier
  unfolding ran_of shifts_in
  is_full f s =
      let more : room < shifts_in (s.earlier ++ Shift s.byte ∷ (parse s.rest).records) = rw (shifts_append s.earlier (Shift s.byte ∷ (parse s.rest).records)) (omega (arith, s.used_up)) in
      is_fine f ∙ rw (full_parse log room s, lt-ltb room _ more, fitting_full room s.earlier s.byte (parse s.rest).records s.used_up)

  -- ---- the table, line by line

  abbrev Numbered : ℕ → Type 0
  Numbered n = number_of (run_of g arr room log m).refusal ≡ n

  numbered : {o : Outcome} → run_of g arr room log m ≡ o → Numbered (number_of o.refusal)
  numbered p = ap (λ (o : Outcome). number_of o.refusal) p

  -- a line that holds gives the run its number
  line_only : (n : ℕ) → Line g room log m n → Numbered n
  line_only n (read_to_its_end f s) = numbered (is_stop f why.End s)
  line_only n (geometry_not_sound p) = numbered (is_refused BadPart refl p)
  line_only n (cells_wrong p q) = numbered (is_refused BadCells refl (p, q))
  line_only n (cache_wrong p q) = numbered (is_refused BadCache refl (p, q))
  line_only n (counts_wrong p q) = numbered (is_refused BadCounts refl (p, q))
  line_only n (state_not_sound p q) = numbered (is_refused BadState refl (p, q))
  line_only n (kind_not_in_table f s) = numbered (is_stop f why.BadKind s)
  line_only n (ends_inside_body f s) = numbered (is_stop f why.ShortBody s)
  line_only n (level_above_1 f s) = numbered (is_stop f why.BadLevel s)
  line_only n (no_room_left f s) = numbered (is_full f s)

  -- ---- and one of its lines holds

  abbrev Lined : Outcome → Type 0
  Lined o = Line g room log m (number_of o.refusal)

  refused_line : (r : Refusal) → passed r ≡ false → Checked g m r → Line g room log m (number_of r)
  refused_line Done p h = absurd (let z : ◌≡◌ {A = ℕ} 0 1 = cc in omega arith)
  refused_line BadPart p h = geometry_not_sound h
  refused_line BadCells p h = cells_wrong h.0 h.1
  refused_line BadCache p h = cache_wrong h.0 h.1
  refused_line BadCounts p h = counts_wrong h.0 h.1
  refused_line BadState p h = state_not_sound h.0 h.1
  refused_line BadKind p h = absurd h
  refused_line ShortBody p h = absurd h
  refused_line BadLevel p h = absurd h
  refused_line NoRoom p h = absurd h

  stop_line : Fine g m → (w : Why) → Stops log room (why_number w) → Line g room log m (number_of (refusal_of w))
  stop_line f why.End s = read_to_its_end f s
  stop_line f why.BadKind s = kind_not_in_table f s
  stop_line f why.ShortBody s = ends_inside_body f s
  stop_line f why.BadLevel s = level_above_1 f s

  ran_line : Bytes log → Fine g m → Lined (ran_of g arr room (parse log) m)
  unfolding ran_of
  ran_line h f =
      cond_keep (λ (r : Refusal). Line g room log m (number_of r)) (ltb room (shifts_in (parse log).records))
      (λ e. no_room_left f (parse_full log room h (ltb-true _ _ e)))
      (λ e. stop_line f (parse log).why (parse_stops log room h (ltb-false _ _ e)))

  line_held : Bytes log → Lined (run_of g arr room log m)
  unfolding run_of
  line_held h =
      cond_keep Lined (passed (checked_as g m)) (λ e. ran_line h (fine g m e)) (λ e. refused_line (checked_as g m) e (checked g m))

pub exactly : Exactly
exactly g arr room log h m n = (λ p. subst (Line g room log m) p (line_held g arr room log m h), line_only g arr room log m n)
