-- What one record done asks for: the memory is ready; and a turn, case by case.
use mathlib.Core.List.{List, []}
use mathlib.Core.Path.{◌≡◌}
use Prim.Native.Nat.{ℕ, suc, ◌+◌, ◌-◌, ◌≤◌, ◌<◌}
use native.Mathlib.Omega.{arith}
use lib.ListN.{length, drop, length-drop}
use borrow.Author.Tests.{lt-ltb, le-ltb}
use Rattle.part.specs.Part.{Sound}
use Rattle.part.specs.declared.Geometry.{Geometry}
use Rattle.buslog.specs.Read.{front, next_of}
use Rattle.buslog.specs.Write.{over}
use Rattle.std.specs.Prelude.{Result, Ok, Err}
use Rattle.buslog.specs.declared.Record.{Record}
use Rattle.buslog.specs.declared.Why.{Why}
use Rattle.buslog.proofs.Logs.{front_found}
use Rattle.buslog.proofs.RoundTrip.{found_front}
use Rattle.array.specs.declared.Work.{Work}
use Rattle.array.specs.declared.Work.TheVariants.{Idle, Busy}
use Rattle.device.specs.Machine.{Machine}
use Rattle.device.specs.Work.{Array, WorkReady}
use Rattle.soundness.specs.Soundness.{WorkSound}
use Rattle.device.specs.Step.{step}
use Rattle.kept.specs.Kept.{SoundMachine}
use Rattle.refusals.specs.Refusals.{refusal_of}
use Rattle.refusals.specs.declared.Refusal.{Refusal}
use Rattle.refusals.specs.declared.Refusal.TheVariants.{NoRoom}
use Rattle.walk.specs.Turns.{takes, puts, turned, turn_of}
use Rattle.walk.specs.declared.Walk.{Walk}

module _ (g : Geometry) (s : Sound g) where
  pub work_ready : (m : Machine) → SoundMachine g m → WorkReady g m.state.work m.store
  work_ready m h = go m.state.work h.state.sound_work
    where
      go : (w : Work) → WorkSound g w → WorkReady g w m.store
      go Idle k = tt
      go (Busy j i) k = record { part = s; going = k; fits = h.fits }

-- the place behind a record is further on, and within the log
pub further : (log : List ℕ) (at : ℕ) → at ≤ length log → (e : Record) (n : ℕ) → next_of log at ≡ Ok (e, n) → (at < n) × (n ≤ length log)
unfolding next_of
further log at i e n p =
    let f = found_front at (front (drop at log)) e n p in
    let k : suc f.0 ≤ length log - at = rw (length-drop at log) at (front_found (drop at log) [] e f.0 f.1).0 in
    (omega (arith, f.2), omega (arith, f.2))

-- ---- a turn, case by case

module _ (g : Geometry) (arr : Array) (w : Walk) (n : Result (Record × ℕ) Why) (m : Machine) (out : List ℕ) where
  -- no record stands there
  pub turn_stops : (why : Why) (r : Refusal) → n ≡ Err why → r ≡ refusal_of why → turned (Err r) m out ≡ turn_of g arr w n m out
  unfolding turn_of
  turn_stops why r p q = rw (p, q)

  -- one that has no room
  pub turn_full : (e : Record) (place : ℕ) → n ≡ Ok (e, place) → length out - w.written < takes e → turned (Err NoRoom) m out ≡ turn_of g arr w n m out
  unfolding turn_of
  turn_full e place p k = rw (p, lt-ltb _ _ k)

  -- one that has
  pub turn_goes : (e : Record) (place room : ℕ) (m₁ : Machine) (out₁ : List ℕ) → n ≡ Ok (e, place) → room ≡ takes e → room ≤ length out - w.written
      → m₁ ≡ step g arr m e → out₁ ≡ over out w.written (puts g m e)
      → turned (Ok (record { state = m₁.state; at = place; records = w.records + 1; written = w.written + room })) m₁ out₁ ≡ turn_of g arr w n m out
  unfolding turn_of
  turn_goes e place room m₁ out₁ p q k x y = rw (p, le-ltb (length out - w.written) (takes e) (omega arith), q, x, y)
