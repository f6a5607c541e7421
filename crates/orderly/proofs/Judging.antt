-- The loop of a judged run, over where it stands: from here on the judgement is as from its start.
use mathlib.Core.Bool.{Bool, false, ◌&&◌, and-true, and_assoc}
use mathlib.Core.List.{List, []}
use mathlib.Core.Path.{◌≡◌, refl, sym, ap, subst, subst⁻¹, ◌∙◌}
use Prim.Native.Nat.{ℕ, suc, ◌+◌, ◌-◌, ◌≤◌, ◌<◌}
use native.Mathlib.Omega.{arith}
use lib.Dec.{ltb}
use lib.ListN.{length, drop, take}
use lib.Seq.{drop-drop}
use borrow.Author.Tests.{lt-ltb, le-ltb, ltb-true, ltb-false}
use Rattle.part.specs.Part.{Sound}
use Rattle.part.specs.declared.Geometry.{Geometry}
use Rattle.part.proofs.Choice.{cond_keep}
use Rattle.buslog.specs.Log.{Bytes}
use Rattle.buslog.specs.Read.{found, front, next_of, parse}
use Rattle.buslog.specs.Write.{over}
use Rattle.std.specs.Prelude.{Result, Ok, Err}
use Rattle.buslog.specs.declared.Record.{Record}
use Rattle.buslog.specs.declared.Why.{Why}
use Rattle.buslog.proofs.Logs.{parse_ends, parse_found}
use Rattle.buslog.proofs.RoundTrip.{found_front, stop_front}
use Rattle.device.specs.Machine.{Machine, machine}
use Rattle.device.specs.Work.{unitwise}
use Rattle.device.specs.Step.{step}
use Rattle.kept.specs.Kept.{SoundMachine, ByteIn}
use Rattle.kept.proofs.Steps.{step_keeps}
use Rattle.refusals.specs.Refusals.{refusal_of, passed, checked_as}
use Rattle.refusals.specs.declared.Refusal.{Refusal}
use Rattle.refusals.specs.declared.Refusal.TheVariants.{NoRoom}
use Rattle.walk.specs.Turns.{takes, puts, start_of, behind, answered, Turned, turned, state_after, turn_of}
use Rattle.walk.specs.declared.Walk.{Walk}
use Rattle.walk.proofs.Turns.{further}
use Rattle.model.specs.Runs.{fitting, Outcome, did, ran_of, run_of, End, shown}
use Rattle.model.proofs.Loop.{Going, Seen, going_start, going_next, going_ends, going_full, out_long, byte_found}
use Rattle.model.proofs.Single.{run_refused}
use Rattle.answers.proofs.Lines.{is_fine}
use Rattle.answers.proofs.Parts.{fine_of}
use Rattle.answers.proofs.Records.{fitting_first}
use Rattle.whole.specs.Orderly.{idle, allowed, orderly, starts}
use Rattle.whole.specs.Demand.{Given, given, records_done, end_of}
use Rattle.orderly.specs.Judge.{judged, judgement_of, closed, welcome}

-- the records that find room, from where a run stands on
abbrev left : List ℕ → List ℕ → ℕ → ℕ → List Record
left log out₀ at count = fitting (length out₀ - count) (parse (drop at log)).records

module _ (g : Geometry) (log out₀ : List ℕ) (m₀ : Machine) where
  -- the run goes on, and the judgement from its start is the flag so far with what is left to judge
  pub record Judging (w : Walk) (ok : Bool) (out : List ℕ) (m : Machine) : Type 0 where
    pub going : Going g (unitwise g) log out₀ m₀ w out m
    pub same : starts m₀.state && orderly g m₀ (fitting (length out₀) (parse log).records) ≡ ok && orderly g m (left log out₀ w.at w.written)

  pub judging_start : SoundMachine g m₀ → Judging (start_of m₀.state) (starts m₀.state) out₀ m₀
  judging_start s = record { going = going_start g (unitwise g) log out₀ m₀ s; same = let n : length out₀ - 0 ≡ length out₀ = omega arith in rw n }

  -- what was handed in
  abbrev pub handed : Given
  handed = given g m₀.state log m₀.store.cells m₀.store.cache m₀.counts out₀

  -- the run from its start
  abbrev whole : Outcome
  whole = ran_of g (unitwise g) (length out₀) (parse log) m₀

  -- the records done are those that find room
  done_first : take whole.records (parse log).records ≡ fitting (length out₀) (parse log).records
  unfolding ran_of
  done_first = fitting_first (length out₀) (parse log).records

  -- where a run stops, seen as the judgement on the whole run
  abbrev pub Told : Refusal → Walk → Bool → Machine → List ℕ → Type 0
  Told r w ok m out = judged (closed (answered r w) ok) m.store.cells m.store.cache m.counts out ≡ judgement_of handed

  module _ (p : Sound g) (s₀ : SoundMachine g m₀) (w : Walk) (ok : Bool) (out : List ℕ) (m : Machine) (h : Judging w ok out m) where
    -- no record is left that finds room
    stop_with : (r : Refusal) → left log out₀ w.at w.written ≡ [] → Seen g (unitwise g) log out₀ m₀ w out m h.going r → Told r w ok m out
    unfolding orderly
    stop_with r n seen =
        let q : run_of g (unitwise g) (length out₀) log m₀ ≡ whole = is_fine g (unitwise g) (length out₀) log m₀ (fine_of g m₀ p s₀) in
        let k : ok ≡ starts m₀.state && orderly g m₀ (take whole.records (parse log).records) = sym (rw done_first (h.same ∙ rw n (and-true ok))) in
        rw q
        (ap (λ (e : End). record { end = e; orderly = ok && idle e.answer.state }) seen
        ∙ ap (λ (b : Bool). record { end = shown whole out₀; orderly = b && idle whole.machine.state }) k)

    -- the reading of the log ends, or the next record finds no room
    judging_ends : (why : Why) → next_of log w.at ≡ Err why → Told (refusal_of why) w ok m out
    unfolding next_of fitting
    judging_ends why e =
        stop_with (refusal_of why) (rw (parse_ends (drop w.at log) why (stop_front w.at (front (drop w.at log)) why e))) (going_ends g (unitwise g) log out₀ m₀ w out m h.going why e)

    judging_full : (e : Record) (n : ℕ) → next_of log w.at ≡ Ok (e, n) → length out₀ - w.written < takes e → Told NoRoom w ok m out
    unfolding next_of fitting
    judging_full e n q k =
        let f = found_front w.at (front (drop w.at log)) e n q in
        stop_with NoRoom (rw (parse_found (drop w.at log) e f.0 f.1, lt-ltb _ _ k)) (going_full g (unitwise g) log out₀ m₀ w out m h.going e n q k)

    -- a record done, and judged
    left_next : (e : Record) (b : ℕ) → front (drop w.at log) ≡ found e b → takes e ≤ length out₀ - w.written
        → ok && orderly g m (left log out₀ w.at w.written)
        ≡ ok && allowed m.state e && orderly g (step g (unitwise g) m e) (left log out₀ (w.at + suc b) (w.written + takes e))
    unfolding fitting orderly
    left_next e b q k =
        let less : length out₀ - (w.written + takes e) ≡ length out₀ - w.written - takes e = omega arith in
        rw (parse_found (drop w.at log) e b q, drop-drop (suc b) w.at log, le-ltb (length out₀ - w.written) (takes e) k, less) (sym (and_assoc ok (allowed m.state e) _))

    judging_next : (e : Record) (n : ℕ) → next_of log w.at ≡ Ok (e, n) → ByteIn e → takes e ≤ length out₀ - w.written
        → Judging (behind w (step g (unitwise g) m e).state n (takes e)) (ok && allowed m.state e) (over out w.written (puts g m e)) (step g (unitwise g) m e)
    unfolding next_of
    judging_next e n q b k =
        let f = found_front w.at (front (drop w.at log)) e n q in
        let i : w.at + suc f.0 ≡ n = omega (arith, f.2) in
        record {
          going = going_next g (unitwise g) log out₀ m₀ w out m h.going (step_keeps g p) e n q b k;
          same = h.same ∙ left_next e f.0 f.1 k ∙ ap (λ (x : ℕ). ok && allowed m.state e && orderly g (step g (unitwise g) m e) (left log out₀ x (w.written + takes e))) i;
        }

    -- ---- a turn

    -- what it leaves: the run stands further on with what stood next judged, or the judgement is that of the whole run
    abbrev Left : Result (Record × ℕ) Why → Result Walk Refusal → Machine → List ℕ → Type 0
    Left n (Ok x) m₁ o = (w.at < x.at) × Judging x (ok && welcome m.state n) o m₁
    Left n (Err r) m₁ o = Told r w ok m₁ o

    abbrev LeftBy : Result (Record × ℕ) Why → Turned → Type 0
    LeftBy n t = Left n t.went t.machine t.out

    turn_leaves : Bytes log → (n : Result (Record × ℕ) Why) → next_of log w.at ≡ n → LeftBy n (turn_of g (unitwise g) w n m out)
    unfolding turn_of
    turn_leaves b (Err why) q = judging_ends why q
    turn_leaves b (Ok (e, n)) q =
        let l = out_long g (unitwise g) log out₀ m₀ w out m h.going in
        cond_keep (LeftBy (Ok (e, n))) (ltb (length out - w.written) (takes e))
        (λ k. judging_full e n q (omega (arith, ltb-true (length out - w.written) (takes e) k, l)))
        (λ k. (
          (further log w.at h.going.inside e n q).0,
          judging_next e n q (byte_found log w.at b e n q) (omega (arith, ltb-false (length out - w.written) (takes e) k, l)),
        ))

    -- the same of what the code has
    module _ (b : Bytes log) (r : Result Walk Refusal) (cells cache counts out₁ : List ℕ) (t : turned r (machine (state_after w r) cells cache counts) out₁ ≡ turn_of g (unitwise g) w (next_of log w.at) m out) where
      left_as : Left (next_of log w.at) r (machine (state_after w r) cells cache counts) out₁
      left_as = subst⁻¹ (LeftBy (next_of log w.at)) t (turn_leaves b (next_of log w.at) refl)

      pub judging_on : (x : Walk) → r ≡ Ok x
          → (w.at < x.at) × Judging x (ok && welcome m.state (next_of log w.at)) out₁ (machine x.state cells cache counts)
      judging_on x q = subst (λ (y : Result Walk Refusal). Left (next_of log w.at) y (machine (state_after w y) cells cache counts) out₁) q left_as

      pub judging_off : (why : Refusal) → r ≡ Err why → judged (closed (answered why w) ok) cells cache counts out₁ ≡ judgement_of handed
      judging_off why q = subst (λ (y : Result Walk Refusal). Left (next_of log w.at) y (machine (state_after w y) cells cache counts) out₁) q left_as

  -- the checks refuse: no record is judged
  pub judged_none : (k : Refusal) → k ≡ checked_as g m₀ → passed k ≡ false → Told k (start_of m₀.state) (starts m₀.state) m₀ out₀
  unfolding orderly run_of
  judged_none k p q =
      let b : run_of g (unitwise g) (length out₀) log m₀ ≡ did g (unitwise g) m₀ (checked_as g m₀) [] = rw (← p, q) in
      let o : starts m₀.state ≡ starts m₀.state && orderly g m₀ (records_done handed (end_of handed)) = rw b (sym (and-true (starts m₀.state))) in
      ap (λ (e : End). record { end = e; orderly = starts m₀.state && idle e.answer.state }) (run_refused g (unitwise g) out₀ m₀ (length out₀) log k p q)
      ∙ ap (λ (x : Bool). record { end = end_of handed; orderly = x && idle (end_of handed).answer.state }) o
