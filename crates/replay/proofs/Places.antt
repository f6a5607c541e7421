-- The place behind a record, and that of the reader that has met it: further on, and within the log.
use mathlib.Core.List.{List, []}
use mathlib.Core.Path.{◌≡◌, ap, sym, ◌∙◌}
use Prim.Native.Nat.{ℕ, suc, ◌-◌, ◌≤◌, ◌<◌}
use native.Mathlib.Omega.{arith}
use lib.ListN.{length, drop, length-drop}
use Rattle.buslog.specs.Read.{front, next_of}
use Rattle.buslog.specs.declared.Record.{Record}
use Rattle.buslog.specs.declared.Why.{Why}
use Rattle.std.specs.Prelude.{Result, Ok}
use Rattle.reader.specs.Reader.{after_of, met_of}
use Rattle.reader.specs.declared.Met.{Met}
use Rattle.buslog.proofs.Logs.{front_found}
use Rattle.buslog.proofs.RoundTrip.{found_front}

further : (log : List ℕ) (at : ℕ) (e : Record) (n : ℕ) → at ≤ length log → next_of log at ≡ Ok (e, n) → (at < n) × (n ≤ length log)
unfolding next_of
further log at e n h p =
    let f = found_front at (front (drop at log)) e n p in
    let k : suc f.0 ≤ length log - at = rw (length-drop at log) at (front_found (drop at log) [] e f.0 f.1).0 in
    (omega (arith, f.2), omega (arith, f.2))

pub met_further : (log : List ℕ) (at : ℕ) {m : Met} {e : Record} {n : ℕ} → at ≤ length log → m ≡ met_of log at → m.next ≡ Ok (e, n) → (at < m.place) × (m.place ≤ length log)
met_further log at {m} {e} {n} h p q =
    let found : next_of log at ≡ Ok (e, n) = sym (ap (λ (k : Met). k.next) p) ∙ q in
    let there : m.place ≡ n = ap (λ (k : Met). k.place) p ∙ ap (λ (k : Result (Record × ℕ) Why). after_of k at) found in
    let f = further log at e n h found in
    (omega (arith, f, there), omega (arith, f, there))
