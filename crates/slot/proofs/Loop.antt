-- The loop of a run, over where it stands: from here on the run ends as from its start.
use mathlib.Core.List.{List, [], ◌∷◌, ◌++◌, append-nil, append_assoc}
use mathlib.Core.Path.{◌≡◌, refl, sym, ap, ap₂, ◌∙◌, subst, subst⁻¹}
use Prim.Native.Nat.{ℕ, suc, ◌+◌, ◌-◌, ◌≤◌, ◌<◌}
use native.Mathlib.Nat.{zero-add, add-zero}
use native.Mathlib.Omega.{arith}
use lib.Dec.{ltb}
use lib.ListN.{length, drop, length-append, length-drop}
use borrow.Author.Tests.{ltb-true, ltb-false}
use Rattle.part.proofs.Choice.{cond_keep}
use Rattle.std.specs.Prelude.{Result, Ok, Err}
use Rattle.buslog.specs.Write.{over}
use Rattle.buslog.proofs.RoundTrip.{over_behind}
use Rattle.cardlog.specs.Log.{bytes_of, written}
use Rattle.cardlog.specs.Read.{found, front, next_of, parse}
use Rattle.cardlog.specs.declared.Record.{Record}
use Rattle.cardlog.specs.declared.Why.{Why}
use Rattle.cardlog.proofs.Logs.{body_of, front_body, length_written}
use Rattle.cardlog.proofs.Promises.{found_front, stop_front}
use Rattle.card.specs.Card.{Card, card, step, run, takes, puts}
use Rattle.card.proofs.Lengths.{step_cells, step_bits}
use Rattle.slot.specs.Turns.{refusal_of, Fits, start_of, behind, answered, stage_then, Stands, Turned, turned, turn_of}
use Rattle.slot.specs.Runs.{Outcome, and_then, bytes_out, did, ran_of, seen, shown}
use Rattle.slot.specs.declared.Refusal.{Refusal}
use Rattle.slot.specs.declared.Refusal.TheVariants.{Done, NoRoom}
use Rattle.slot.specs.declared.Walk.{Walk}
use Rattle.slot.proofs.Turns.{further}
use Rattle.slot.proofs.Rooms.{puts_length, left_ends, left_full, left_next}

-- what a run has done so far, before an outcome
abbrev pub on_top : ℕ → ℕ → List ℕ → Outcome → Outcome
on_top records at out o = record { refusal = o.refusal; card = o.card; records = records + o.records; used = at + o.used; output = out ++ o.output }

-- a record done leaves the lengths
fits_on : (c : Card) (e : Record) → Fits c → Fits (step c e)
fits_on c e f = record { cells = step_cells c e ∙ f.cells; bits = step_bits c e ∙ f.bits }

module _ (log out₀ : List ℕ) (c₀ : Card) where
  -- the run from its start
  abbrev whole : Outcome
  whole = ran_of (length out₀) (parse log) c₀

  -- a run that stands at w, the card and the output as they are then
  pub record Going (w : Walk) (out : List ℕ) (c : Card) : Type 0 where
    pub here : w.stage ≡ c.stage
    pub fits : Fits c
    pub pace : w.records ≤ w.at
    pub inside : w.at ≤ length log
    pub bytes : List ℕ
    pub long : length bytes ≡ w.written
    pub roomy : w.written ≤ length out₀
    pub lies : out ≡ bytes ++ drop w.written out₀
    pub same : on_top w.records w.at bytes (ran_of (length out₀ - w.written) (parse (drop w.at log)) c) ≡ whole

  pub going_start : Fits c₀ → Going (start_of c₀.stage) out₀ c₀
  going_start f = record { here = refl; fits = f; pace = omega arith; inside = omega arith; bytes = []; long = refl; roomy = omega arith; lies = refl; same = start }
    where
      start : on_top 0 0 [] (ran_of (length out₀ - 0) (parse log) c₀) ≡ whole
      start = let e : length out₀ - 0 ≡ length out₀ = omega arith in rw (e, zero-add whole.records, zero-add whole.used)

  module _ (w : Walk) (out : List ℕ) (c : Card) (h : Going w out c) where
    -- the output keeps its length
    pub out_long : length out ≡ length out₀
    out_long = rw (h.lies, length-append h.bytes (drop w.written out₀), length-drop w.written out₀) (omega (arith, h.long, h.roomy))

    -- what a turn asks for
    pub stands : Stands w log out
    stands = record { pace = h.pace; inside = h.inside; roomy = omega (arith, h.roomy, out_long) }

    -- what the loop holds, seen as the end of the whole run
    abbrev pub Seen : Refusal → Type 0
    Seen r = seen (answered r w) c.cells c.bits out ≡ shown whole out₀

    stop_with : (r : Refusal) → ran_of (length out₀ - w.written) (parse (drop w.at log)) c ≡ did c r [] → Seen r
    unfolding run bytes_out written
    stop_with r e =
        let o : record { refusal = r; card = c; records = w.records; used = w.at; output = h.bytes } ≡ whole =
        sym (rw (e, add-zero w.records, add-zero w.at, append-nil h.bytes) at (sym h.same)) in
        rw (h.here, ← h.long) (ap (λ (l : List ℕ). seen (record { refusal = r; stage = c.stage; records = w.records; used = w.at; written = length h.bytes }) c.cells c.bits l)
        (h.lies ∙ ap (λ (n : ℕ). h.bytes ++ drop n out₀) (sym h.long)))
        ∙ ap (λ (o : Outcome). shown o out₀) o

    pub going_ends : (why : Why) → next_of log w.at ≡ Err why → Seen (refusal_of why)
    unfolding next_of
    going_ends why p = stop_with (refusal_of why) (left_ends (length out₀ - w.written) log w.at c why (stop_front w.at (front (drop w.at log)) why p))

    pub going_full : (e : Record) (n : ℕ) → next_of log w.at ≡ Ok (e, n) → length out₀ - w.written < takes e → Seen NoRoom
    unfolding next_of
    going_full e n p k =
        let f = found_front w.at (front (drop w.at log)) e n p in
        stop_with NoRoom (left_full (length out₀ - w.written) log w.at c e f.0 f.1 k)

    -- a record done
    written_one : (e : Record) → length (written (e ∷ [])) ≡ suc (body_of e)
    unfolding written
    written_one e = ap length (append-nil (bytes_of e)) ∙ length_written e

    module _ (e : Record) (n : ℕ) (p : front (drop w.at log) ≡ found e n) (k : takes e ≤ length out₀ - w.written) where
      next_lies : over out w.written (puts c e) ≡ h.bytes ++ puts c e ++ drop (w.written + takes e) out₀
      next_lies = rw h.lies (over_behind h.bytes out₀ (puts c e) w.written h.long ∙ rw (puts_length c e))

      left : ℕ → Outcome
      left room = ran_of room (parse (drop (w.at + suc n) log)) (step c e)

      tuple : (a b : ℕ) (l : List ℕ) → Outcome
      tuple a b l = let o = left (length out₀ - w.written - takes e) in record { refusal = o.refusal; card = o.card; records = a; used = b; output = l }

      regroup : length (written (e ∷ [])) ≡ suc n
          → on_top (w.records + 1) (w.at + suc n) (h.bytes ++ puts c e) (left (length out₀ - (w.written + takes e)))
          ≡ on_top w.records w.at h.bytes (and_then (did c Done (e ∷ [])) (left (length out₀ - w.written - takes e)))
      unfolding left tuple bytes_out
      regroup q =
          let o : Outcome = left (length out₀ - w.written - takes e) in
          let less : length out₀ - (w.written + takes e) ≡ length out₀ - w.written - takes e = omega arith in
          let r₁ : w.records + 1 + o.records ≡ w.records + (1 + o.records) = omega arith in
          let r₂ : w.at + suc n + o.used ≡ w.at + (length (written (e ∷ [])) + o.used) = omega arith in
          let r₃ : h.bytes ++ puts c e ++ o.output ≡ h.bytes ++ (bytes_out c (e ∷ []) ++ o.output) =
          append_assoc h.bytes (puts c e) o.output ∙ ap (λ (l : List ℕ). h.bytes ++ (l ++ o.output)) (sym (append-nil (puts c e))) in
          rw less
          (ap (λ (a : ℕ). tuple a (w.at + suc n + o.used) (h.bytes ++ puts c e ++ o.output)) r₁
          ∙ ap₂ (λ (b : ℕ) (l : List ℕ). tuple (w.records + (1 + o.records)) b l) r₂ r₃)

      next_same : on_top (w.records + 1) (w.at + suc n) (h.bytes ++ puts c e) (left (length out₀ - (w.written + takes e))) ≡ whole
      unfolding left
      next_same =
          regroup (written_one e ∙ ap suc (front_body (drop w.at log) e n p))
          ∙ ap (on_top w.records w.at h.bytes) (sym (left_next (length out₀ - w.written) log w.at c e n p k)) ∙ h.same

    pub going_next : (e : Record) (n : ℕ) → next_of log w.at ≡ Ok (e, n) → takes e ≤ length out₀ - w.written
        → Going (behind w (step c e).stage n (takes e)) (over out w.written (puts c e)) (step c e)
    unfolding next_of left
    going_next e n p k =
        let f = found_front w.at (front (drop w.at log)) e n p in
        let q : w.at + suc f.0 ≡ n = omega (arith, f.2) in
        record {
          here = refl;
          fits = fits_on c e h.fits;
          pace = omega (arith, h.pace, (further log w.at h.inside e n p).0);
          inside = (further log w.at h.inside e n p).1;
          bytes = h.bytes ++ puts c e;
          long = length-append h.bytes (puts c e) ∙ ap₂ (λ (x y : ℕ). x + y) h.long (puts_length c e);
          roomy = omega (arith, h.roomy);
          lies = next_lies e f.0 f.1 k;
          same = subst (λ (x : ℕ). on_top (w.records + 1) x (h.bytes ++ puts c e) (ran_of (length out₀ - (w.written + takes e)) (parse (drop x log)) (step c e)) ≡ whole) q (next_same e f.0 f.1 k);
        }

  -- ---- a turn

  -- what it leaves: the run stands behind the record, further on, or it has ended as the whole run does
  abbrev pub Left : Walk → Result Walk Refusal → Card → List ℕ → Type 0
  Left w (Ok x) c out = (w.at < x.at) × Going x out c
  Left w (Err r) c out = seen (answered r w) c.cells c.bits out ≡ shown whole out₀

  abbrev LeftBy : Walk → Turned → Type 0
  LeftBy w t = Left w t.went t.card t.out

  module _ (w : Walk) (out : List ℕ) (c : Card) (h : Going w out c) where
    turn_leaves : (n : Result (Record × ℕ) Why) → next_of log w.at ≡ n → LeftBy w (turn_of w n c out)
    unfolding turn_of
    turn_leaves (Err why) p = going_ends w out c h why p
    turn_leaves (Ok (e, n)) p =
        cond_keep (LeftBy w) (ltb (length out - w.written) (takes e))
        (λ k. going_full w out c h e n p (omega (arith, ltb-true (length out - w.written) (takes e) k, out_long w out c h)))
        (λ k. (
          (further log w.at h.inside e n p).0,
          going_next w out c h e n p (omega (arith, ltb-false (length out - w.written) (takes e) k, out_long w out c h)),
        ))

    -- the same of what the code has: the card behind a turn holds the stage that came with it
    module _ (r : Result Walk Refusal) (cells bits out₁ : List ℕ) (t : turned r (card (stage_then w r) cells bits) out₁ ≡ turn_of w (next_of log w.at) c out) where
      left_as : Left w r (card (stage_then w r) cells bits) out₁
      left_as = subst⁻¹ (LeftBy w) t (turn_leaves (next_of log w.at) refl)

      pub going_on : (x : Walk) → r ≡ Ok x → (w.at < x.at) × Going x out₁ (card x.stage cells bits)
      going_on x q = subst (λ (y : Result Walk Refusal). Left w y (card (stage_then w y) cells bits) out₁) q left_as

      pub going_off : (why : Refusal) → r ≡ Err why → seen (answered why w) cells bits out₁ ≡ shown whole out₀
      going_off why q = subst (λ (y : Result Walk Refusal). Left w y (card (stage_then w y) cells bits) out₁) q left_as
