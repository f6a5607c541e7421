-- The checks 1 to 5 refuse exactly what their lines say.
use mathlib.Core.Bool.{Bool, true, false, not}
use mathlib.Core.Path.{◌≡◌, refl}
use Prim.Native.Nat.{ℕ, ◌*◌}
use native.Mathlib.Omega.{arith}
use lib.Dec.{T, eqb}
use lib.ListN.{length}
use borrow.Author.Tests.{eqb-true, eqb-false, eq-eqb, ne_eqb, not-true, not-false}
use Rattle.std.specs.Prelude.{Result}
use Rattle.part.specs.Part.{page, rows, Sound, sound_part}
use Rattle.part.specs.declared.Geometry.{Geometry}
use Rattle.part.proofs.Choice.{cond_keep, T_true, true_T}
use Rattle.part.proofs.Laws as Laws
use Rattle.device.specs.Machine.{Machine}
use Rattle.device.specs.Sound.{SoundState, sound_state}
use Rattle.kept.proofs.Exactly as Exactly
use Rattle.refusals.specs.Refusals.{check_of, line_of, passed, checked_as}
use Rattle.refusals.specs.declared.Refusal.{Refusal}
use Rattle.refusals.specs.declared.Refusal.TheVariants.{Done, BadPart, BadCells, BadCache, BadCounts, BadState, BadKind, ShortBody, BadLevel, NoRoom}
use Rattle.answers.specs.Table.{CellsFit, CacheFits, CountsFit, Fine}

-- ---- a test that fails

not_T_false : (b : Bool) → ¬ T b → b ≡ false
not_T_false true t = absurd (t tt)
not_T_false false t = refl

false_not_T : (b : Bool) → b ≡ false → ¬ T b
false_not_T true e t = absurd (let z : ◌≡◌ {A = ℕ} 0 1 = cc in omega arith)
false_not_T false e t = t

-- ---- the checks

module _ (g : Geometry) (m : Machine) where
  -- what is known of the part and the machine where the checks answer so
  abbrev pub Checked : Refusal → Type 0
  Checked Done = Fine g m
  Checked BadPart = ¬ Sound g
  Checked BadCells = Sound g × ¬ (length m.store.cells ≡ rows g * page g)
  Checked BadCache = CellsFit g m × ¬ (length m.store.cache ≡ page g)
  Checked BadCounts = CacheFits g m × ¬ (length m.counts ≡ rows g)
  Checked BadState = CountsFit g m × ¬ SoundState g m.state
  Checked BadKind = ⊥
  Checked ShortBody = ⊥
  Checked BadLevel = ⊥
  Checked NoRoom = ⊥

  -- the same of what a check answers
  abbrev Answered : Result Unit Refusal → Type 0
  Answered x = Checked (line_of x)

  -- it is so for the answer that they give
  pub checked : Checked (checked_as g m)
  unfolding check_of
  checked =
      cond_keep Answered (not (sound_part g)) (λ e s. false_not_T (sound_part g) (not-true _ e) ((Laws.sound_exactly g).1 s))
      (λ e.
      let part : Sound g = (Laws.sound_exactly g).0 (true_T (sound_part g) (not-false _ e)) in
      cond_keep Answered (not (eqb (length m.store.cells) (rows g * page g))) (λ e. (part, eqb-false _ _ (not-true _ e)))
      (λ e.
      let cells : CellsFit g m = record { part = part; cells = eqb-true _ _ (not-false _ e) } in
      cond_keep Answered (not (eqb (length m.store.cache) (page g))) (λ e. (cells, eqb-false _ _ (not-true _ e)))
      (λ e.
      let cache : CacheFits g m = record { before = cells; cache = eqb-true _ _ (not-false _ e) } in
      cond_keep Answered (not (eqb (length m.counts) (rows g))) (λ e. (cache, eqb-false _ _ (not-true _ e)))
      (λ e.
      let counts : CountsFit g m = record { before = cache; counts = eqb-true _ _ (not-false _ e) } in
      cond_keep Answered (not (sound_state g m.state)) (λ e. (counts, λ s. false_not_T (sound_state g m.state) (not-true _ e) ((Exactly.sound_exactly g m.state).1 s)))
      (λ e. record { before = counts; state = (Exactly.sound_exactly g m.state).0 (true_T (sound_state g m.state) (not-false _ e)) })))))

  part_yes : Sound g → sound_part g ≡ true
  part_yes s = T_true (sound_part g) ((Laws.sound_exactly g).1 s)

  state_yes : SoundState g m.state → sound_state g m.state ≡ true
  state_yes s = T_true (sound_state g m.state) ((Exactly.sound_exactly g m.state).1 s)

  state_no : ¬ SoundState g m.state → sound_state g m.state ≡ false
  state_no n = not_T_false (sound_state g m.state) (λ t. n ((Exactly.sound_exactly g m.state).0 t))

  -- no other answer goes with what is known
  pub checked_only : (r : Refusal) → Checked r → checked_as g m ≡ r
  unfolding check_of
  checked_only BadPart h = rw (not_T_false (sound_part g) (λ t. h ((Laws.sound_exactly g).0 t)))
  checked_only BadCells h = rw (part_yes h.0, ne_eqb _ _ h.1)
  checked_only BadCache h = rw (part_yes h.0.part, eq-eqb _ _ h.0.cells, ne_eqb _ _ h.1)
  checked_only BadCounts h = rw (part_yes h.0.before.part, eq-eqb _ _ h.0.before.cells, eq-eqb _ _ h.0.cache, ne_eqb _ _ h.1)
  checked_only BadState h =
      let c = h.0 in
      rw (part_yes c.before.before.part, eq-eqb _ _ c.before.before.cells, eq-eqb _ _ c.before.cache, eq-eqb _ _ c.counts, state_no h.1)
  checked_only Done h =
      let c = h.before in
      rw (part_yes c.before.before.part, eq-eqb _ _ c.before.before.cells, eq-eqb _ _ c.before.cache, eq-eqb _ _ c.counts, state_yes h.state)
  checked_only BadKind h = absurd h
  checked_only ShortBody h = absurd h
  checked_only BadLevel h = absurd h
  checked_only NoRoom h = absurd h

  -- nothing is refused: all the checks hold
  pub fine : passed (checked_as g m) ≡ true → Fine g m
  fine = go (checked_as g m) checked
    where
      go : (r : Refusal) → Checked r → passed r ≡ true → Fine g m
      go Done h e = h
      go BadPart h e = absurd (let z : ◌≡◌ {A = ℕ} 0 1 = cc in omega arith)
      go BadCells h e = absurd (let z : ◌≡◌ {A = ℕ} 0 1 = cc in omega arith)
      go BadCache h e = absurd (let z : ◌≡◌ {A = ℕ} 0 1 = cc in omega arith)
      go BadCounts h e = absurd (let z : ◌≡◌ {A = ℕ} 0 1 = cc in omega arith)
      go BadState h e = absurd (let z : ◌≡◌ {A = ℕ} 0 1 = cc in omega arith)
      go BadKind h e = absurd h
      go ShortBody h e = absurd h
      go BadLevel h e = absurd h
      go NoRoom h e = absurd h
