-- Blank memory: what `blank` answers case by case, which refusals it has, and that a run from power-up on it is not refused.
use mathlib.Core.Bool.{Bool, true, false, cond, not}
use mathlib.Core.List.{List}
use mathlib.Core.Path.{◌≡◌, refl}
use Prim.Native.Nat.{ℕ, ◌*◌}
use native.Mathlib.Omega.{arith}
use lib.Dec.{eqb}
use lib.ListN.{length, replicate, length-replicate}
use Rattle.std.specs.Prelude.{Result, Ok, Err}
use Rattle.part.specs.Part.{page, rows, sound_part}
use Rattle.part.specs.declared.Geometry.{Geometry}
use Rattle.part.proofs.Choice.{T_true}
use Rattle.device.specs.Machine.{machine}
use Rattle.device.specs.Step.{power_up}
use Rattle.device.specs.Sound.{sound_state}
use Rattle.kept.proofs.Exactly as state
use Rattle.kept.proofs.Exactly.{power_up_sound}
use Rattle.refusals.specs.Refusals.{number_of, check_of, line_of, passed, checked_as}
use Rattle.refusals.proofs.Checked.{never_done}
use Rattle.refusals.specs.declared.Refusal.{Refusal}
use Rattle.refusals.specs.declared.Refusal.TheVariants.{Done, BadPart, BadCells, BadCache, BadCounts, BadState}
use Rattle.beside.specs.Beside.{blank_end, blank_check, blank_after, blank_of}
use Rattle.beside.specs.Promises.{BlankExactly, BlankNeverDone, BlankReady}
use Rattle.beside.proofs.Asked.{part_sound}

-- ---- what the code has, case by case

module _ (g : Geometry) (cells cache counts : List ℕ) (x : Result Unit Refusal) (p : x ≡ blank_check g cells cache counts) where
  pub blank_refused : (r : Refusal) → x ≡ Err r → blank_end (Err r) cells cache counts ≡ blank_of g cells cache counts
  unfolding blank_of
  blank_refused r q = rw (← p, q)

  pub blank_done : {u : Unit} → x ≡ Ok u → (cells₁ cache₁ counts₁ : List ℕ) → cells₁ ≡ replicate (length cells) 0xFF → cache₁ ≡ replicate (length cache) 0xFF → counts₁ ≡ replicate (length counts) 0
      → blank_end (Ok tt) cells₁ cache₁ counts₁ ≡ blank_of g cells cache counts
  unfolding blank_of
  blank_done q cells₁ cache₁ counts₁ a b c = rw (← p, q, a, b, c)

-- ---- its refusals

-- the power-up state is sound on a sound part, so the last check never refuses
blank_checks : (g : Geometry) (cells cache counts : ℕ) →
    check_of g power_up cells cache counts
    ≡ cond (not (sound_part g)) (Err BadPart) (cond (not (eqb cells (rows g * page g))) (Err BadCells) (cond (not (eqb cache (page g))) (Err BadCache) (cond (not (eqb counts (rows g))) (Err BadCounts) (Ok (tt {0})))))
unfolding check_of
blank_checks g cells cache counts = go (sound_part g) refl
  where
    go : (a : Bool) → sound_part g ≡ a →
        cond (not a) (Err BadPart) (cond (not (eqb cells (rows g * page g))) (Err BadCells) (cond (not (eqb cache (page g))) (Err BadCache) (cond (not (eqb counts (rows g))) (Err BadCounts) (cond (not (sound_state g power_up)) (Err BadState) (Ok (tt {0}))))))
        ≡ cond (not a) (Err BadPart) (cond (not (eqb cells (rows g * page g))) (Err BadCells) (cond (not (eqb cache (page g))) (Err BadCache) (cond (not (eqb counts (rows g))) (Err BadCounts) (Ok (tt {0})))))
    go false e = refl
    go true e = rw (T_true (sound_state g power_up) ((state.sound_exactly g power_up).1 (power_up_sound g (part_sound g e))))

pub blank_exactly : BlankExactly
unfolding blank_of
blank_exactly g cells cache counts =
    rw (blank_checks g (length cells) (length cache) (length counts))
    (go (sound_part g) (eqb (length cells) (rows g * page g)) (eqb (length cache) (page g)) (eqb (length counts) (rows g)))
  where
    go : (a b c d : Bool) →
        let x = cond (not a) (Err BadPart) (cond (not b) (Err BadCells) (cond (not c) (Err BadCache) (cond (not d) (Err BadCounts) (Ok (tt {0}))))) in
        number_of (line_of (blank_after x cells cache counts).answer)
        ≡ cond (not a) 1 (cond (not b) 2 (cond (not c) 3 (cond (not d) 4 0)))
    go false b c d = refl
    go true false c d = refl
    go true true false d = refl
    go true true true false = refl
    go true true true true = refl

pub blank_never_done : BlankNeverDone
unfolding blank_of
blank_never_done g cells cache counts r = go (blank_check g cells cache counts) refl
  where
    go : (x : Result Unit Refusal) → blank_check g cells cache counts ≡ x → (blank_after x cells cache counts).answer ≡ Err r → passed r ≡ false
    go (Ok u) p h = absurd (let z : ⊥ = cc in z)
    go (Err k) p h =
        let q : k ≡ r = cc in
        rw q at (never_done g power_up (length cells) (length cache) (length counts) k p)

-- ---- a run on it

pub blank_ready : BlankReady
unfolding blank_of
blank_ready g cells cache counts = go (blank_check g cells cache counts) refl
  where
    go : (x : Result Unit Refusal) → blank_check g cells cache counts ≡ x →
        let b = blank_after x cells cache counts in
        passed (line_of b.answer) ≡ true → checked_as g (machine power_up b.cells b.cache b.counts) ≡ Done
    go (Ok u) p h = rw (length-replicate {A = ℕ} (length cells) 0xFF, length-replicate {A = ℕ} (length cache) 0xFF, length-replicate {A = ℕ} (length counts) 0, p)
    go (Err r) p h =
        let e : passed r ≡ false = never_done g power_up (length cells) (length cache) (length counts) r p in
        absurd (let z : ⊥ = cc in z)
