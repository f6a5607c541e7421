-- The table holds, line by line, in both directions.
use mathlib.Core.Bool.{not}
use mathlib.Core.List.{List, [], ◌∷◌, ◌++◌}
use mathlib.Core.Path.{◌≡◌, ap, subst, ◌∙◌}
use Prim.Native.Nat.{ℕ, ◌<◌}
use native.Mathlib.Omega.{arith}
use lib.Dec.{eqb, ltb}
use lib.ListN.{length}
use borrow.Author.Tests.{eqb-true, eqb-false, eq-eqb, ne_eqb, not-true, not-false, lt-ltb, le-ltb, ltb-true, ltb-false}
use Rattle.part.proofs.Choice.{cond_keep}
use Rattle.cardlog.specs.Read.{why_number, parse}
use Rattle.cardlog.specs.declared.Why.{Why}
use Rattle.cardlog.specs.declared.Why.TheVariants as why
use Rattle.card.specs.Card.{Card}
use Rattle.slot.specs.Turns.{Fits, number_of, refusal_of, check_of}
use Rattle.slot.specs.Runs.{room_for, Outcome, did, ran_of, only_if, run_of}
use Rattle.slot.specs.declared.Refusal.{Refusal}
use Rattle.slot.specs.declared.Refusal.TheVariants.{BadCells, BadBits, NoRoom}
use Rattle.slot.proofs.Rooms.{room_append, fitting_all, fitting_full}
use Rattle.card_answers.specs.Table.{Stops, Full, Line, read_to_its_end, cells_wrong, bits_wrong, kind_not_in_table, ends_inside_body, no_room_left}
use Rattle.card_answers.specs.Promises.{Exactly}
use Rattle.card_answers.proofs.Logs.{stops_parse, full_parse, parse_stops, parse_full}

module _ (room : ℕ) (log : List ℕ) (c : Card) where
  -- ---- the run, where it is known what is refused

  -- 17 and 18: nothing is done
  no_cells : ¬ (length c.cells ≡ 1024) → run_of room log c ≡ did c BadCells []
  unfolding run_of check_of
  no_cells h = rw (ne_eqb _ _ h)

  no_bits : length c.cells ≡ 1024 → ¬ (length c.bits ≡ 128) → run_of room log c ≡ did c BadBits []
  unfolding run_of check_of
  no_bits h k = rw (eq-eqb _ _ h, ne_eqb _ _ k)

  -- the checks hold
  pub is_fine : Fits c → run_of room log c ≡ ran_of room (parse log) c
  unfolding run_of check_of
  is_fine f = rw (eq-eqb _ _ f.cells, eq-eqb _ _ f.bits)

  -- 0, 6 and 7: the records that stand before
  pub is_stop : Fits c → (w : Why) (s : Stops log room (why_number w)) → run_of room log c ≡ did c (refusal_of w) s.earlier
  unfolding ran_of
  is_stop f w s = is_fine f ∙ rw (stops_parse log room w s, le-ltb room (room_for s.earlier) s.roomy, fitting_all room s.earlier s.roomy)

  -- 9
  pub is_full : Fits c → (s : Full log room) → run_of room log c ≡ did c NoRoom s.earlier
  unfolding ran_of room_for
  is_full f s =
      let more : room < room_for (s.earlier ++ s.next ∷ (parse s.rest).records) = rw (room_append s.earlier (s.next ∷ (parse s.rest).records)) (omega (arith, s.used_up)) in
      is_fine f ∙ rw (full_parse log room s, lt-ltb room _ more, fitting_full room s.earlier s.next (parse s.rest).records s.roomy s.used_up)

  -- ---- the table, line by line

  -- the run gives a number
  abbrev Numbered : ℕ → Type 0
  Numbered n = number_of (run_of room log c).refusal ≡ n

  numbered : {o : Outcome} → run_of room log c ≡ o → Numbered (number_of o.refusal)
  numbered p = ap (λ (o : Outcome). number_of o.refusal) p

  -- a line that holds gives the run its number
  line_only : (n : ℕ) → Line room log c n → Numbered n
  line_only n (read_to_its_end f s) = numbered (is_stop f why.End s)
  line_only n (cells_wrong h) = numbered (no_cells h)
  line_only n (bits_wrong h k) = numbered (no_bits h k)
  line_only n (kind_not_in_table f s) = numbered (is_stop f why.BadKind s)
  line_only n (ends_inside_body f s) = numbered (is_stop f why.ShortBody s)
  line_only n (no_room_left f s) = numbered (is_full f s)

  -- ---- and one of its lines holds

  -- what holds of the log's run where the checks hold, and of nothing done for each that does not, holds of the run
  pub run_keep : (P : Outcome → Type 0) → (Fits c → P (ran_of room (parse log) c)) → (¬ (length c.cells ≡ 1024) → P (did c BadCells [])) →
      (length c.cells ≡ 1024 → ¬ (length c.bits ≡ 128) → P (did c BadBits [])) → P (run_of room log c)
  unfolding run_of check_of
  run_keep P ran cells bits =
      cond_keep Q (not (eqb (length c.cells) 1024)) (λ e. cells (eqb-false _ _ (not-true _ e)))
      (λ e.
      let long : length c.cells ≡ 1024 = eqb-true _ _ (not-false _ e) in
      cond_keep Q (not (eqb (length c.bits) 128)) (λ e. bits long (eqb-false _ _ (not-true _ e))) (λ e. ran (record { cells = long; bits = eqb-true _ _ (not-false _ e) })))
    where
      Q : Refusal → Type 0
      Q r = P (only_if r (ran_of room (parse log) c) (did c r []))

  -- the line of the number that the run gives
  abbrev Lined : Outcome → Type 0
  Lined o = Line room log c (number_of o.refusal)

  stop_line : Fits c → (w : Why) → Stops log room (why_number w) → Line room log c (number_of (refusal_of w))
  stop_line f why.End s = read_to_its_end f s
  stop_line f why.BadKind s = kind_not_in_table f s
  stop_line f why.ShortBody s = ends_inside_body f s

  ran_line : Fits c → Lined (ran_of room (parse log) c)
  unfolding ran_of
  ran_line f =
      cond_keep (λ (r : Refusal). Line room log c (number_of r)) (ltb room (room_for (parse log).records))
      (λ e. no_room_left f (parse_full log room (ltb-true _ _ e)))
      (λ e. stop_line f (parse log).why (parse_stops log room (ltb-false _ _ e)))

  line_held : Lined (run_of room log c)
  line_held = run_keep Lined ran_line (λ h. cells_wrong h) (λ h k. bits_wrong h k)

-- number n exactly where line n holds
pub exactly : Exactly
exactly room log c n = (λ p. subst (Line room log c) p (line_held room log c), line_only room log c n)
