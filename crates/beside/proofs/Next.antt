-- The next byte: what `peek` answers case by case, which refusals it has, and that the byte is the one that the next shift puts out.
use mathlib.Core.Bool.{Bool, true, false, cond, not}
use mathlib.Core.List.{List}
use mathlib.Core.Path.{◌≡◌, refl, sym, ap, subst}
use Prim.Native.Nat.{ℕ, suc, ◌*◌}
use native.Mathlib.Omega.{arith}
use lib.Dec.{T, eqb}
use lib.ListN.{length}
use borrow.Author.Tests.{eq-eqb}
use Rattle.std.specs.Prelude.{Result, Ok, Err}
use Rattle.part.specs.Part.{page, rows, sound_part}
use Rattle.part.specs.declared.Geometry.{Geometry}
use Rattle.buslog.specs.declared.Record.TheVariants.{Shift}
use Rattle.reply.specs.Reply.{byte_out}
use Rattle.device.specs.Machine.{Machine}
use Rattle.device.specs.Instructions.{answer}
use Rattle.device.specs.Sound.{sound_state}
use Rattle.device.specs.declared.State.{State}
use Rattle.refusals.specs.Refusals.{number_of, check_of, line_of, passed, checked_as}
use Rattle.refusals.specs.declared.Refusal.{Refusal}
use Rattle.refusals.specs.declared.Refusal.TheVariants.{BadPart, BadCells, BadCache, BadCounts, BadState}
use Rattle.refusals.proofs.Checked.{never_done}
use Rattle.model.specs.Runs.{Outcome, bytes_out, run_of}
use Rattle.model.proofs.Single.{single_done}
use Rattle.beside.specs.Beside.{byte_after, peek_check, peek_of}
use Rattle.beside.specs.Promises.{PeekExactly, PeekNeverDone, NextByte}

-- ---- what the code has, case by case

module _ (g : Geometry) (s : State) (cache : List ℕ) where
  pub peek_unsound : sound_part g ≡ false → Err BadPart ≡ peek_of g s cache
  unfolding peek_of check_of
  peek_unsound e = rw e

  pub peek_refused : (x : Result Unit Refusal) (r : Refusal) → x ≡ peek_check g s cache → x ≡ Err r → Err r ≡ peek_of g s cache
  unfolding peek_of
  peek_refused x r p q = rw (← p, q)

  pub peek_told : (x : Result Unit Refusal) {u : Unit} (b : ℕ) → x ≡ peek_check g s cache → x ≡ Ok u → b ≡ byte_out g s.regs s.bus cache → Ok b ≡ peek_of g s cache
  unfolding peek_of answer
  peek_told x b p q e = rw (← p, q, e)

-- ---- its refusals

-- the lengths that are not lent are the part's
peek_checks : (g : Geometry) (s : State) (cache : List ℕ) →
    peek_check g s cache ≡ cond (not (sound_part g)) (Err BadPart) (cond (not (eqb (length cache) (page g))) (Err BadCache) (cond (not (sound_state g s)) (Err BadState) (Ok tt)))
unfolding check_of
peek_checks g s cache = rw (eq-eqb (rows g * page g) (rows g * page g) refl, eq-eqb (rows g) (rows g) refl)

pub peek_exactly : PeekExactly
unfolding peek_of
peek_exactly g s cache = rw (peek_checks g s cache) (go (sound_part g) (eqb (length cache) (page g)) (sound_state g s))
  where
    go : (a b c : Bool) →
        number_of (line_of (byte_after (cond (not a) (Err BadPart) (cond (not b) (Err BadCache) (cond (not c) (Err BadState) (Ok tt)))) (answer g s cache))) ≡ cond (not a) 1 (cond (not b) 3 (cond (not c) 5 0))
    go false b c = refl
    go true false c = refl
    go true true false = refl
    go true true true = refl

pub peek_never_done : PeekNeverDone
unfolding peek_of
peek_never_done g s cache r = go (peek_check g s cache) refl
  where
    go : (x : Result Unit Refusal) → peek_check g s cache ≡ x → byte_after x (answer g s cache) ≡ Err r → passed r ≡ false
    go (Ok u) p h = absurd (let z : ⊥ = cc in z)
    go (Err k) p h =
        let q : k ≡ r = cc in
        rw q at (never_done g s (rows g * page g) (length cache) (rows g) k p)

-- ---- the byte

-- where a run is not refused, it is not refused either
peek_passes : (g : Geometry) (m : Machine) → passed (checked_as g m) ≡ true → peek_check g m.state m.store.cache ≡ Ok tt
unfolding check_of
peek_passes g m h =
    rw (peek_checks g m.state m.store.cache)
    (go (sound_part g) (eqb (length m.store.cells) (rows g * page g)) (eqb (length m.store.cache) (page g)) (eqb (length m.counts) (rows g)) (sound_state g m.state) h)
  where
    go : (a b c d e : Bool)
        → passed (line_of (cond (not a) (Err BadPart) (cond (not b) (Err BadCells) (cond (not c) (Err BadCache) (cond (not d) (Err BadCounts) (cond (not e) (Err BadState) (Ok (tt {0})))))))) ≡ true
        → ◌≡◌ {A = Result Unit Refusal} (cond (not a) (Err BadPart) (cond (not c) (Err BadCache) (cond (not e) (Err BadState) (Ok tt)))) (Ok tt)
    go false b c d e h = absurd (subst T (sym h) tt)
    go true false c d e h = absurd (subst T (sym h) tt)
    go true true false d e h = absurd (subst T (sym h) tt)
    go true true true false e h = absurd (subst T (sym h) tt)
    go true true true true false h = absurd (subst T (sym h) tt)
    go true true true true true h = refl

pub next_byte : NextByte
unfolding run_of peek_of bytes_out
next_byte g arr m b room h =
    (answer g m.state m.store.cache, rw (peek_passes g m h), rw h (ap (λ (o : Outcome). o.output) (single_done g arr (suc room) (Shift b) m refl (omega arith))))
