-- A turn of a run, case by case.
use mathlib.Core.List.{List, []}
use mathlib.Core.Path.{◌≡◌}
use Prim.Native.Nat.{ℕ, suc, ◌+◌, ◌-◌, ◌≤◌, ◌<◌}
use native.Mathlib.Omega.{arith}
use lib.ListN.{length, drop, length-drop}
use borrow.Author.Tests.{lt-ltb, le-ltb}
use Rattle.std.specs.Prelude.{Result, Ok, Err}
use Rattle.buslog.specs.Write.{over}
use Rattle.cardlog.specs.Read.{front, next_of}
use Rattle.cardlog.specs.declared.Record.{Record}
use Rattle.cardlog.specs.declared.Why.{Why}
use Rattle.cardlog.proofs.Logs.{front_found}
use Rattle.cardlog.proofs.Promises.{found_front}
use Rattle.card.specs.Card.{Card, step, takes, puts}
use Rattle.slot.specs.Turns.{refusal_of, turned, turn_of}
use Rattle.slot.specs.declared.Refusal.{Refusal}
use Rattle.slot.specs.declared.Refusal.TheVariants.{NoRoom}
use Rattle.slot.specs.declared.Walk.{Walk}

-- the place behind a record is further on, and within the log
pub further : (log : List ℕ) (at : ℕ) → at ≤ length log → (e : Record) (n : ℕ) → next_of log at ≡ Ok (e, n) → (at < n) × (n ≤ length log)
unfolding next_of
further log at i e n p =
    let f = found_front at (front (drop at log)) e n p in
    let k : suc f.0 ≤ length log - at = rw (length-drop at log) at (front_found (drop at log) [] e f.0 f.1).0 in
    (omega (arith, f.2), omega (arith, f.2))

module _ (w : Walk) (n : Result (Record × ℕ) Why) (c : Card) (out : List ℕ) where
  -- no record stands there
  pub turn_stops : (why : Why) (r : Refusal) → n ≡ Err why → r ≡ refusal_of why → turned (Err r) c out ≡ turn_of w n c out
  unfolding turn_of
  turn_stops why r p q = rw (p, q)

  -- one whose answer has no room
  pub turn_full : (e : Record) (place : ℕ) → n ≡ Ok (e, place) → length out - w.written < takes e → turned (Err NoRoom) c out ≡ turn_of w n c out
  unfolding turn_of
  turn_full e place p k = rw (p, lt-ltb _ _ k)

  -- one whose answer has
  pub turn_goes : (e : Record) (place room : ℕ) (c₁ : Card) (out₁ : List ℕ) → n ≡ Ok (e, place) → room ≡ takes e → room ≤ length out - w.written
      → c₁ ≡ step c e → out₁ ≡ over out w.written (puts c e)
      → turned (Ok (record { stage = c₁.stage; at = place; records = w.records + 1; written = w.written + room })) c₁ out₁ ≡ turn_of w n c out
  unfolding turn_of
  turn_goes e place room c₁ out₁ p q k x y = rw (p, le-ltb (length out - w.written) (takes e) (omega arith), q, x, y)
