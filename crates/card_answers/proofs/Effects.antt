-- Each refusal has the effect that the table names.
use mathlib.Core.List.{List, []}
use mathlib.Core.Path.{◌≡◌, refl, sym, ap, ◌∙◌}
use Prim.Native.Nat.{ℕ, ◌≤◌}
use native.Mathlib.Omega.{arith}
use lib.Dec.{ltb}
use Rattle.part.proofs.Choice.{cond_keep}
use Rattle.cardlog.specs.Read.{parse}
use Rattle.cardlog.specs.declared.Why.{Why}
use Rattle.cardlog.specs.declared.Why.TheVariants as why
use Rattle.cardlog.specs.declared.Record.{Record}
use Rattle.card.specs.Card.{Card}
use Rattle.slot.specs.Turns.{number_of, refusal_of}
use Rattle.slot.specs.Runs.{room_for, Outcome, did, ran_of, run_of}
use Rattle.slot.specs.declared.Refusal.{Refusal}
use Rattle.slot.specs.declared.Refusal.TheVariants.{Done, BadKind, ShortBody, NoRoom}
use Rattle.slot.proofs.Rooms.{run_done}
use Rattle.card_answers.specs.Table.{Stops, Full, Line, read_to_its_end, cells_wrong, bits_wrong, kind_not_in_table, ends_inside_body, no_room_left}
use Rattle.card_answers.specs.Promises.{NothingDone, Effects}
use Rattle.card_answers.proofs.Logs.{ends_number}
use Rattle.card_answers.proofs.Lines.{is_stop, is_full, run_keep, exactly}

module _ (room : ℕ) (log : List ℕ) (c : Card) where
  -- the records done, with the refusal that the run gives
  given : (r : Refusal) (es : List Record) → run_of room log c ≡ did c r es → run_of room log c ≡ did c (run_of room log c).refusal es
  given r es p = p ∙ ap (λ (r : Refusal). did c r es) (sym (ap (λ (o : Outcome). o.refusal) p))

  -- what a log is read to is none of the checks' refusals
  ran_low : 17 ≤ number_of (ran_of room (parse log) c).refusal → ⊥
  unfolding ran_of
  ran_low = cond_keep Low (ltb room (room_for (parse log).records)) (λ e h. omega arith) (λ e. go (parse log).why)
    where
      Low : Refusal → Type 0
      Low r = 17 ≤ number_of r → ⊥

      go : (w : Why) → Low (refusal_of w)
      go why.End h = omega arith
      go why.BadKind h = omega arith
      go why.ShortBody h = omega arith

  -- 17 and 18
  nothing_done : NothingDone room log c
  nothing_done = run_keep room log c Nothing (λ f h. absurd (ran_low h)) (λ k h. refl) (λ k l h. refl)
    where
      Nothing : Outcome → Type 0
      Nothing o = 17 ≤ number_of o.refusal → o ≡ did c o.refusal []

  -- 0, 6 and 7; with another number no log stops
  stops_before : (n : ℕ) → Line room log c n → (s : Stops log room n) → run_of room log c ≡ did c (run_of room log c).refusal s.earlier
  stops_before n (read_to_its_end f t) s = given Done s.earlier (is_stop room log c f why.End s)
  stops_before n (kind_not_in_table f t) s = given BadKind s.earlier (is_stop room log c f why.BadKind s)
  stops_before n (ends_inside_body f t) s = given ShortBody s.earlier (is_stop room log c f why.ShortBody s)
  stops_before n (cells_wrong h) s = absurd (omega (arith, ends_number s.next))
  stops_before n (bits_wrong h k) s = absurd (omega (arith, ends_number s.next))
  stops_before n (no_room_left f t) s = absurd (omega (arith, ends_number s.next))

  -- 9
  full_before : Line room log c 9 → (s : Full log room) → run_of room log c ≡ did c (run_of room log c).refusal s.earlier
  full_before (no_room_left f t) s = given NoRoom s.earlier (is_full room log c f s)

-- the four effects together
pub effects : Effects
effects room log c = (
  nothing_done room log c,
  λ n p s. stops_before room log c n ((exactly room log c n).0 p) s,
  λ p s. full_before room log c ((exactly room log c 9).0 p) s,
  run_done room log c,
)
