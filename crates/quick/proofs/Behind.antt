-- A turn of the quick run, and a run that goes on behind a stream: each shift of it is a record of the log.
use mathlib.Core.List.{List}
use mathlib.Core.Path.{◌≡◌, refl, subst⁻¹}
use Prim.Native.Nat.{ℕ, suc, ◌+◌, ◌-◌, ◌*◌, ◌≤◌, ◌<◌}
use native.Mathlib.Nat.{add-zero}
use native.Mathlib.Numerals.{add-one}
use native.Mathlib.Omega.{arith}
use lib.ListN.{length, set}
use lib.Seq.{drop-cons}
use Rattle.part.specs.declared.Geometry.{Geometry}
use Rattle.buslog.specs.Log.{Bytes}
use Rattle.buslog.specs.Read.{front, next_of}
use Rattle.buslog.specs.Write.{over}
use Rattle.buslog.specs.declared.Record.{Record}
use Rattle.buslog.specs.declared.Record.TheVariants.{Shift}
use Rattle.std.specs.Prelude.{Ok}
use Rattle.device.specs.Machine.{Machine, machine}
use Rattle.device.specs.Work.{Array}
use Rattle.device.specs.Instructions.{answer, shifts}
use Rattle.device.specs.Step.{step}
use Rattle.device.specs.declared.State.{State}
use Rattle.kept.specs.Kept.{Keeps}
use Rattle.walk.specs.Turns.{takes, puts}
use Rattle.walk.specs.declared.Walk.{Walk}
use Rattle.buslog.proofs.RoundTrip.{over_one}
use Rattle.walk.proofs.Turns.{turn_goes}
use Rattle.stream.specs.Streams.{ShiftAt, byte_in, Shifted, none, more, Streamed}
use Rattle.stream.specs.declared.Stream.{Stream}
use Rattle.model.proofs.Loop.{Going, going_next, going_on, out_long, byte_found}
use Rattle.quick.specs.Along.{walk_at, shifts_on}

-- a shift at a place is the next record
shift_next : (log : List ℕ) (place : ℕ) → ShiftAt log place → next_of log place ≡ Ok (Shift (byte_in log place), place + 2)
unfolding next_of front
shift_next log place h =
    rw (add-one place, drop-cons log place 0 (omega (arith, h.inside)), drop-cons log (suc place) 0 (omega (arith, h.inside)), h.kind)

module _ (g : Geometry) (arr : Array) (log out₀ : List ℕ) (m₀ : Machine) (keeps : Keeps g arr) (bytes : Bytes log) (w : Walk) where
  -- the same, of what is equal
  going_at : {v v' : Walk} {out out' : List ℕ} {m : Machine} → v' ≡ v → out' ≡ out → Going g arr log out₀ m₀ v out m → Going g arr log out₀ m₀ v' out' m
  going_at {v} {v'} {out} {out'} {m} e f h =
      subst⁻¹ (λ (x : Walk). Going g arr log out₀ m₀ x out' m) e (subst⁻¹ (λ (x : List ℕ). Going g arr log out₀ m₀ v x m) f h)

  -- behind a turn, further on
  pub going_turn : (out : List ℕ) (m : Machine) → Going g arr log out₀ m₀ w out m → (e : Record) (place room : ℕ) → next_of log w.at ≡ Ok (e, place) → room ≡ takes e → room ≤ length out - w.written
      → (s : State) (cells cache counts out₁ : List ℕ) → machine s cells cache counts ≡ step g arr m e → out₁ ≡ over out w.written (puts g m e)
      → (w.at < place) × Going g arr log out₀ m₀ (walk_at s place (w.records + 1) (w.written + room)) out₁ (machine s cells cache counts)
  going_turn out m h e place room p q k s cells cache counts out₁ x y =
      let v : Walk = walk_at s place (w.records + 1) (w.written + room) in
      going_on g arr log out₀ m₀ keeps bytes w out m h (Ok v) cells cache counts out₁ (turn_goes g arr w (next_of log w.at) m out e place room (machine s cells cache counts) out₁ p q k x y) v refl

  -- one shift more
  going_more : (k : ℕ) (m : Machine) (out : List ℕ) → Going g arr log out₀ m₀ (shifts_on w m.state k) out m → ShiftAt log (w.at + 2 * k) → w.written + k < length out
      → let m₁ = shifts g (byte_in log (w.at + 2 * k)) m in
      Going g arr log out₀ m₀ (shifts_on w m₁.state (k + 1)) (set out (w.written + k) (answer g m.state m.store.cache)) m₁
  unfolding step
  going_more k m out h a z =
      let v = shifts_on w m.state k in
      let e = Shift (byte_in log (w.at + 2 * k)) in
      let p : next_of log (w.at + 2 * k) ≡ Ok (Shift (byte_in log (w.at + 2 * k)), w.at + 2 * k + 2) = shift_next log (w.at + 2 * k) a in
      let r : w.records + (k + 1) ≡ w.records + k + 1 = omega arith in
      let q : w.at + 2 * (k + 1) ≡ w.at + 2 * k + 2 = omega arith in
      let n : w.written + (k + 1) ≡ w.written + k + 1 = omega arith in
      going_at (rw (r, q, n)) (over_one out (w.written + k) _ z)
      (going_next g arr log out₀ m₀ v out m h keeps e (w.at + 2 * k + 2) p (byte_found log (w.at + 2 * k) bytes e (w.at + 2 * k + 2) p)
      (omega (arith, out_long g arr log out₀ m₀ v out m h)))

  going_shifts : {m₁ : Machine} {out₁ : List ℕ} {k : ℕ} {m : Machine} {out : List ℕ} → w.state ≡ m₁.state → Going g arr log out₀ m₀ w out₁ m₁ → Shifted g log w.at w.written m₁ out₁ k m out
      → Going g arr log out₀ m₀ (shifts_on w m.state k) out m
  going_shifts e h none = going_at (rw (add-zero w.at, add-zero w.records, add-zero w.written, e)) refl h
  going_shifts e h (more {k} {m} {out} d a z) = going_more k m out (going_shifts e h d) a z

  -- behind a stream, and no further back
  pub going_along : (cells cache counts out : List ℕ) (r : Stream) (cache₁ out₁ : List ℕ) → Streamed g w.state log w.at w.written cache out r cache₁ out₁
      → Going g arr log out₀ m₀ w out (machine w.state cells cache counts)
      → Going g arr log out₀ m₀ (shifts_on w r.state r.count) out₁ (machine r.state cells cache₁ counts)
  going_along cells cache counts out r cache₁ out₁ a h = going_shifts refl h (a.done (machine w.state cells cache counts))
