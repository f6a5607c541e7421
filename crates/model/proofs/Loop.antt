-- The loop of a run, over where it stands, for any array that keeps soundness: from here on the run ends as from its start.
use mathlib.Core.List.{List, [], ◌∷◌, ◌++◌, append-nil, append_assoc}
use mathlib.Core.Path.{◌≡◌, refl, sym, ap, ap₂, ◌∙◌, subst, subst⁻¹}
use Prim.Native.Nat.{ℕ, suc, ◌+◌, ◌-◌, ◌≤◌, ◌<◌}
use native.Mathlib.Nat.{zero-add, add-zero}
use native.Mathlib.Omega.{arith}
use lib.Dec.{ltb}
use lib.ListN.{length, drop, length-append, length-drop}
use borrow.Author.Tests.{ltb-true, ltb-false}
use Rattle.part.specs.declared.Geometry.{Geometry}
use Rattle.part.proofs.Choice.{cond_keep}
use Rattle.buslog.specs.Log.{bytes_of, written, Bytes}
use Rattle.buslog.specs.Read.{found, front, next_of, parse}
use Rattle.buslog.specs.Write.{over}
use Rattle.buslog.specs.declared.Record.{Record}
use Rattle.buslog.specs.declared.Record.TheVariants.{Select, Shift, Deselect, Units, Level, Power}
use Rattle.std.specs.Prelude.{Result, Ok, Err}
use Rattle.buslog.specs.declared.Why.{Why}
use Rattle.buslog.proofs.Logs.{body_of, drop_bytes, found_bytes, front_body, length_written}
use Rattle.buslog.proofs.RoundTrip.{over_behind, found_front, stop_front}
use Rattle.device.specs.Machine.{Machine, machine}
use Rattle.device.specs.Work.{Array}
use Rattle.device.specs.Step.{step, run}
use Rattle.kept.specs.Kept.{SoundMachine, ByteIn, Keeps}
use Rattle.refusals.specs.Refusals.{refusal_of}
use Rattle.refusals.specs.declared.Refusal.{Refusal}
use Rattle.refusals.specs.declared.Refusal.TheVariants.{Done, NoRoom}
use Rattle.walk.specs.Turns.{takes, puts, start_of, behind, answered, state_after, Stands, Turned, turned, turn_of}
use Rattle.walk.specs.declared.Walk.{Walk}
use Rattle.walk.proofs.Turns.{further}
use Rattle.model.specs.Runs.{Outcome, and_then, bytes_out, did, ran_of, seen, shown}
use Rattle.model.proofs.Rooms.{puts_length, left_ends, left_full, left_next}

-- what a run has done so far, before an outcome
abbrev pub on_top : ℕ → ℕ → List ℕ → Outcome → Outcome
on_top records at out o = record { refusal = o.refusal; machine = o.machine; records = records + o.records; used = at + o.used; output = out ++ o.output }

-- a shift's byte is a byte of the log
byte_shifted : (e : Record) (l : List ℕ) → Bytes (bytes_of e ++ l) → ByteIn e
byte_shifted (Shift b) l h = h 1
byte_shifted Select l h = tt
byte_shifted Deselect l h = tt
byte_shifted (Units n) l h = tt
byte_shifted (Level v) l h = tt
byte_shifted Power l h = tt

pub byte_found : (log : List ℕ) (at : ℕ) → Bytes log → (e : Record) (n : ℕ) → next_of log at ≡ Ok (e, n) → ByteIn e
unfolding next_of
byte_found log at h e n p =
    let f = found_front at (front (drop at log)) e n p in
    let h' : Bytes (drop at log) = drop_bytes at log h in
    byte_shifted e (drop (suc f.0) (drop at log)) (subst Bytes (found_bytes (drop at log) h' e f.0 f.1) h')

module _ (g : Geometry) (arr : Array) (log out₀ : List ℕ) (m₀ : Machine) where
  -- the run from its start
  abbrev whole : Outcome
  whole = ran_of g arr (length out₀) (parse log) m₀

  -- a run that stands at w, the machine and the output as they are then
  pub record Going (w : Walk) (out : List ℕ) (m : Machine) : Type 0 where
    pub here : w.state ≡ m.state
    pub sound : SoundMachine g m
    pub pace : w.records ≤ w.at
    pub inside : w.at ≤ length log
    pub bytes : List ℕ
    pub long : length bytes ≡ w.written
    pub roomy : w.written ≤ length out₀
    pub lies : out ≡ bytes ++ drop w.written out₀
    pub same : on_top w.records w.at bytes (ran_of g arr (length out₀ - w.written) (parse (drop w.at log)) m) ≡ whole

  pub going_start : SoundMachine g m₀ → Going (start_of m₀.state) out₀ m₀
  going_start s = record { here = refl; sound = s; pace = omega arith; inside = omega arith; bytes = []; long = refl; roomy = omega arith; lies = refl; same = start }
    where
      start : on_top 0 0 [] (ran_of g arr (length out₀ - 0) (parse log) m₀) ≡ whole
      start = let e : length out₀ - 0 ≡ length out₀ = omega arith in rw (e, zero-add whole.records, zero-add whole.used)

  module _ (w : Walk) (out : List ℕ) (m : Machine) (h : Going w out m) where
    -- the output keeps its length
    pub out_long : length out ≡ length out₀
    out_long = rw (h.lies, length-append h.bytes (drop w.written out₀), length-drop w.written out₀) (omega (arith, h.long, h.roomy))

    -- what a turn asks for
    pub stands : Stands w log out
    stands = record { pace = h.pace; inside = h.inside; roomy = omega (arith, h.roomy, out_long) }

    -- what the loop holds, seen as the end of the whole run
    abbrev pub Seen : Refusal → Type 0
    Seen r = seen (answered r w) m.store.cells m.store.cache m.counts out ≡ shown whole out₀

    stop_with : (r : Refusal) → ran_of g arr (length out₀ - w.written) (parse (drop w.at log)) m ≡ did g arr m r [] → Seen r
    unfolding run bytes_out written
    stop_with r e =
        let o : record { refusal = r; machine = m; records = w.records; used = w.at; output = h.bytes } ≡ whole =
        sym (rw (e, add-zero w.records, add-zero w.at, append-nil h.bytes) at (sym h.same)) in
        rw (h.here, ← h.long) (ap (λ (l : List ℕ). seen (record { refusal = r; state = m.state; records = w.records; used = w.at; written = length h.bytes }) m.store.cells m.store.cache m.counts l)
        (h.lies ∙ ap (λ (n : ℕ). h.bytes ++ drop n out₀) (sym h.long)))
        ∙ ap (λ (o : Outcome). shown o out₀) o

    pub going_ends : (why : Why) → next_of log w.at ≡ Err why → Seen (refusal_of why)
    unfolding next_of
    going_ends why p = stop_with (refusal_of why) (left_ends g arr (length out₀ - w.written) log w.at m why (stop_front w.at (front (drop w.at log)) why p))

    pub going_full : (e : Record) (n : ℕ) → next_of log w.at ≡ Ok (e, n) → length out₀ - w.written < takes e → Seen NoRoom
    unfolding next_of
    going_full e n p k =
        let f = found_front w.at (front (drop w.at log)) e n p in
        stop_with NoRoom (left_full g arr (length out₀ - w.written) log w.at m e f.0 f.1 k)

    -- a record done
    written_one : (e : Record) → length (written (e ∷ [])) ≡ suc (body_of e)
    unfolding written
    written_one e = ap length (append-nil (bytes_of e)) ∙ length_written e

    module _ (e : Record) (n : ℕ) (p : front (drop w.at log) ≡ found e n) (k : takes e ≤ length out₀ - w.written) where
      next_lies : over out w.written (puts g m e) ≡ h.bytes ++ puts g m e ++ drop (w.written + takes e) out₀
      next_lies = rw h.lies (over_behind h.bytes out₀ (puts g m e) w.written h.long ∙ rw (puts_length g arr m e))

      left : ℕ → Outcome
      left room = ran_of g arr room (parse (drop (w.at + suc n) log)) (step g arr m e)

      tuple : (a b : ℕ) (c : List ℕ) → Outcome
      tuple a b c = let o = left (length out₀ - w.written - takes e) in record { refusal = o.refusal; machine = o.machine; records = a; used = b; output = c }

      regroup : length (written (e ∷ [])) ≡ suc n
          → on_top (w.records + 1) (w.at + suc n) (h.bytes ++ puts g m e) (left (length out₀ - (w.written + takes e)))
          ≡ on_top w.records w.at h.bytes (and_then (did g arr m Done (e ∷ [])) (left (length out₀ - w.written - takes e)))
      unfolding left tuple bytes_out
      regroup q =
          let o : Outcome = left (length out₀ - w.written - takes e) in
          let less : length out₀ - (w.written + takes e) ≡ length out₀ - w.written - takes e = omega arith in
          let r₁ : w.records + 1 + o.records ≡ w.records + (1 + o.records) = omega arith in
          let r₂ : w.at + suc n + o.used ≡ w.at + (length (written (e ∷ [])) + o.used) = omega arith in
          let r₃ : h.bytes ++ puts g m e ++ o.output ≡ h.bytes ++ (bytes_out g arr m (e ∷ []) ++ o.output) =
          append_assoc h.bytes (puts g m e) o.output ∙ ap (λ (l : List ℕ). h.bytes ++ (l ++ o.output)) (sym (append-nil (puts g m e))) in
          rw less
          (ap (λ (a : ℕ). tuple a (w.at + suc n + o.used) (h.bytes ++ puts g m e ++ o.output)) r₁
          ∙ ap₂ (λ (b : ℕ) (c : List ℕ). tuple (w.records + (1 + o.records)) b c) r₂ r₃)

      next_same : on_top (w.records + 1) (w.at + suc n) (h.bytes ++ puts g m e) (left (length out₀ - (w.written + takes e))) ≡ whole
      unfolding left
      next_same =
          regroup (written_one e ∙ ap suc (front_body (drop w.at log) e n p))
          ∙ ap (on_top w.records w.at h.bytes) (sym (left_next g arr (length out₀ - w.written) log w.at m e n p k)) ∙ h.same

    pub going_next : Keeps g arr → (e : Record) (n : ℕ) → next_of log w.at ≡ Ok (e, n) → ByteIn e → takes e ≤ length out₀ - w.written
        → Going (behind w (step g arr m e).state n (takes e)) (over out w.written (puts g m e)) (step g arr m e)
    unfolding next_of left
    going_next s e n p b k =
        let f = found_front w.at (front (drop w.at log)) e n p in
        let q : w.at + suc f.0 ≡ n = omega (arith, f.2) in
        record {
          here = refl;
          sound = s m e b h.sound;
          pace = omega (arith, h.pace, (further log w.at h.inside e n p).0);
          inside = (further log w.at h.inside e n p).1;
          bytes = h.bytes ++ puts g m e;
          long = length-append h.bytes (puts g m e) ∙ ap₂ (λ (x y : ℕ). x + y) h.long (puts_length g arr m e);
          roomy = omega (arith, h.roomy);
          lies = next_lies e f.0 f.1 k;
          same = subst (λ (x : ℕ). on_top (w.records + 1) x (h.bytes ++ puts g m e) (ran_of g arr (length out₀ - (w.written + takes e)) (parse (drop x log)) (step g arr m e)) ≡ whole) q (next_same e f.0 f.1 k);
        }

  -- ---- a turn

  -- what it leaves: the run stands behind the record, further on, or it has ended as the whole run does
  abbrev pub Left : Walk → Result Walk Refusal → Machine → List ℕ → Type 0
  Left w (Ok x) m out = (w.at < x.at) × Going x out m
  Left w (Err r) m out = seen (answered r w) m.store.cells m.store.cache m.counts out ≡ shown whole out₀

  abbrev LeftBy : Walk → Turned → Type 0
  LeftBy w t = Left w t.went t.machine t.out

  module _ (keeps : Keeps g arr) (bytes : Bytes log) (w : Walk) (out : List ℕ) (m : Machine) (h : Going w out m) where
    turn_leaves : (n : Result (Record × ℕ) Why) → next_of log w.at ≡ n → LeftBy w (turn_of g arr w n m out)
    unfolding turn_of
    turn_leaves (Err why) p = going_ends w out m h why p
    turn_leaves (Ok (e, n)) p =
        cond_keep (LeftBy w) (ltb (length out - w.written) (takes e))
        (λ k. going_full w out m h e n p (omega (arith, ltb-true (length out - w.written) (takes e) k, out_long w out m h)))
        (λ k. (
          (further log w.at h.inside e n p).0,
          going_next w out m h keeps e n p (byte_found log w.at bytes e n p) (omega (arith, ltb-false (length out - w.written) (takes e) k, out_long w out m h)),
        ))

    -- the same of what the code has: the machine behind a turn holds the state that came with it
    module _ (r : Result Walk Refusal) (cells cache counts out₁ : List ℕ) (t : turned r (machine (state_after w r) cells cache counts) out₁ ≡ turn_of g arr w (next_of log w.at) m out) where
      left_as : Left w r (machine (state_after w r) cells cache counts) out₁
      left_as = subst⁻¹ (LeftBy w) t (turn_leaves (next_of log w.at) refl)

      pub going_on : (x : Walk) → r ≡ Ok x → (w.at < x.at) × Going x out₁ (machine x.state cells cache counts)
      going_on x q = subst (λ (y : Result Walk Refusal). Left w y (machine (state_after w y) cells cache counts) out₁) q left_as

      pub going_off : (why : Refusal) → r ≡ Err why → seen (answered why w) cells cache counts out₁ ≡ shown whole out₀
      going_off why q = subst (λ (y : Result Walk Refusal). Left w y (machine (state_after w y) cells cache counts) out₁) q left_as
