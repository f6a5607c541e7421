-- The checks 1 to 5 passed: the part, the state and the memory are sound.
use mathlib.Core.Bool.{Bool, true, false, cond, not}
use mathlib.Core.Path.{◌≡◌, refl, sym, ap, subst, ◌∙◌}
use Prim.Native.Nat.{ℕ, ◌*◌}
use native.Mathlib.Omega.{arith}
use lib.Dec.{T, eqb}
use lib.ListN.{length}
use borrow.Author.Tests.{eqb-true}
use Rattle.std.specs.Prelude.{Result, Ok, Err}
use Rattle.part.specs.Part.{page, rows, sound_part, Sound}
use Rattle.part.specs.declared.Geometry.{Geometry}
use Rattle.part.proofs.Choice.{true_T}
use Rattle.part.proofs.Laws as part
use Rattle.device.specs.Machine.{Machine}
use Rattle.device.specs.Sound.{sound_state}
use Rattle.device.specs.declared.State.{State}
use Rattle.kept.specs.Kept.{SoundMachine}
use Rattle.kept.proofs.Exactly as state
use Rattle.kept.proofs.Made.{fits_of, sound_made}
use Rattle.refusals.specs.Refusals.{check_of, line_of, passed, checked_as, NeverDone}
use Rattle.refusals.specs.declared.Refusal.{Refusal}
use Rattle.refusals.specs.declared.Refusal.TheVariants.{Done, BadPart, BadCells, BadCache, BadCounts, BadState}

pub passed_sound : (g : Geometry) (m : Machine) → passed (checked_as g m) ≡ true → Sound g × SoundMachine g m
unfolding check_of
passed_sound g m =
    go (sound_part g) (eqb (length m.store.cells) (rows g * page g)) (eqb (length m.store.cache) (page g)) (eqb (length m.counts) (rows g)) (sound_state g m.state) refl refl refl refl refl
  where
    none : false ≡ true → Sound g × SoundMachine g m
    none e = absurd (subst T (sym e) tt)

    go : (a b c d e : Bool) → sound_part g ≡ a → eqb (length m.store.cells) (rows g * page g) ≡ b → eqb (length m.store.cache) (page g) ≡ c
        → eqb (length m.counts) (rows g) ≡ d → sound_state g m.state ≡ e
        → passed (line_of (cond (not a) (Err BadPart) (cond (not b) (Err BadCells) (cond (not c) (Err BadCache) (cond (not d) (Err BadCounts) (cond (not e) (Err BadState) (Ok (tt {0})))))))) ≡ true → Sound g × SoundMachine g m
    go false b c d e p q r s t h = none h
    go true false c d e p q r s t h = none h
    go true true false d e p q r s t h = none h
    go true true true false e p q r s t h = none h
    go true true true true false p q r s t h = none h
    go true true true true true p q r s t h = (
      (part.sound_exactly g).0 (true_T (sound_part g) p),
      sound_made g m ((state.sound_exactly g m.state).0 (true_T (sound_state g m.state) t)) (fits_of g m.store (eqb-true _ _ q) (eqb-true _ _ r)) (eqb-true _ _ s),
    )

-- the same of what the code has
pub sound_as : (g : Geometry) (m : Machine) (k : Refusal) → k ≡ checked_as g m → passed k ≡ true → Sound g × SoundMachine g m
sound_as g m k p q = passed_sound g m (rw (← p) q)

-- a check never refuses with line 0
pub never_done : NeverDone
unfolding check_of
never_done g s cells cache counts r = go (sound_part g) (eqb cells (rows g * page g)) (eqb cache (page g)) (eqb counts (rows g)) (sound_state g s)
  where
    by : (k : Refusal) → passed k ≡ false → ◌≡◌ {A = Result Unit Refusal} (Err k) (Err r) → passed r ≡ false
    by k p h = let q : k ≡ r = cc in rw q at p

    go : (a b c d e : Bool)
        → ◌≡◌ {A = Result Unit Refusal} (cond (not a) (Err BadPart) (cond (not b) (Err BadCells) (cond (not c) (Err BadCache) (cond (not d) (Err BadCounts) (cond (not e) (Err BadState) (Ok tt)))))) (Err r)
        → passed r ≡ false
    go false b c d e h = by BadPart refl h
    go true false c d e h = by BadCells refl h
    go true true false d e h = by BadCache refl h
    go true true true false e h = by BadCounts refl h
    go true true true true false h = by BadState refl h
    go true true true true true h = absurd (let z : ◌≡◌ {A = ℕ} 0 1 = cc in omega arith)

-- what the code learns from a check's answer: the refusal is that of the machine, or nothing is refused
module _ (g : Geometry) (m : Machine) {x : Result Unit Refusal} (h : x ≡ check_of g m.state (length m.store.cells) (length m.store.cache) (length m.counts)) where
  pub refused_as : {r : Refusal} → x ≡ Err r → r ≡ checked_as g m
  refused_as p = ap line_of (sym p ∙ h)

  pub refused_no : {r : Refusal} → x ≡ Err r → passed r ≡ false
  refused_no {r} p = never_done g m.state (length m.store.cells) (length m.store.cache) (length m.counts) r (sym h ∙ p)

  pub done_as : {u : Unit} → x ≡ Ok u → Done ≡ checked_as g m
  done_as p = ap line_of (sym p ∙ h)
