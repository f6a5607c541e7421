-- The units left: what `units_left` answers case by case, that OIP tells whether there are any, and that work takes them away one by one.
use mathlib.Core.Bool.{Bool, true, false, cond}
use mathlib.Core.Logic.{◌↔◌}
use mathlib.Core.Path.{◌≡◌, refl, sym, ap, ◌∙◌, subst}
use Prim.Native.Nat.{ℕ, ◌+◌, ◌-◌, ◌<◌}
use native.Mathlib.Omega.{arith}
use lib.Dec.{T, ltb, not_T}
use borrow.Author.Tests.{lt-ltb, ltb-false, not-true}
use Rattle.part.specs.Part.{sound_part, Sound}
use Rattle.part.specs.declared.Geometry.{Geometry}
use Rattle.part.proofs.Choice.{T_true}
use Rattle.part.proofs.Laws as part
use Rattle.buslog.specs.declared.Record.TheVariants.{Units}
use Rattle.registers.specs.Registers.{oip}
use Rattle.array.specs.Jobs.{length_of, many, Going}
use Rattle.array.specs.declared.Job.{Job}
use Rattle.array.specs.declared.Work.{Work}
use Rattle.array.specs.declared.Work.TheVariants.{Idle, Busy}
use Rattle.soundness.specs.Soundness.{InProgress, WorkSound}
use Rattle.device.specs.Machine.{Machine, with_store, with_work}
use Rattle.device.specs.Work.{ended, units, unitwise}
use Rattle.device.specs.Step.{step}
use Rattle.device.specs.Sound.{sound_state}
use Rattle.device.specs.declared.State.{State}
use Rattle.device.proofs.Units.{units_idle, units_busy}
use Rattle.kept.specs.Kept.{SoundMachine}
use Rattle.kept.proofs.Exactly as state
use Rattle.kept.proofs.Steps.{step_keeps}
use Rattle.refusals.proofs.Checked.{passed_sound}
use Rattle.beside.specs.Beside.{left_in, units_left}
use Rattle.beside.specs.Promises.{BusyTold, LeftAfter}
use Rattle.beside.proofs.Asked.{state_sound}

-- ---- what the code has, case by case

module _ (g : Geometry) (s : State) where
  pub left_no_part : sound_part g ≡ false → 0 ≡ units_left g s
  unfolding units_left
  left_no_part p = rw p

  pub left_no_state : sound_part g ≡ true → sound_state g s ≡ false → 0 ≡ units_left g s
  unfolding units_left
  left_no_state p q = rw (p, q)

  -- part and state are sound
  pub left_told : sound_part g ≡ true → sound_state g s ≡ true → (w : Work) → s.work ≡ w → left_in g w ≡ units_left g s
  unfolding units_left
  left_told p q w e = rw (p, q, e)

  -- and an operation in progress has units left
  pub left_going : sound_state g s ≡ true → (j : Job) (i : ℕ) → s.work ≡ Busy j i → i < length_of g j
  left_going q j i e = let k : Going g j i = subst (WorkSound g) e (state_sound g s q).sound_work in k.unit_left

-- ---- OIP

-- OIP over the work alone
busy_with : (g : Geometry) (c : ℕ) (w : Work) → T (oip c) ↔ InProgress w → WorkSound g w → oip c ≡ ltb 0 (left_in g w)
busy_with g c Idle h k = not-true (oip c) (T_true _ (not_T (oip c) h.0))
busy_with g c (Busy j i) h k = T_true (oip c) (h.1 tt) ∙ sym (lt-ltb 0 (length_of g j - i) (omega (arith, k.unit_left)))

pub busy_told : BusyTold
busy_told g s p q =
    let h = state_sound g s q in
    busy_with g s.regs.c0 s.work h.oip_exactly h.sound_work ∙ ap (ltb 0) (left_told g s p q s.work refl)

-- ---- work

-- an operation that has come so far has the rest left
left_reached : (g : Geometry) (j : Job) (i n : ℕ) (m : Machine) → (b : Bool) → ltb (i + n) (length_of g j) ≡ b →
    left_in g (cond b (with_work (Busy j (i + n)) m) (ended g j m)).state.work ≡ length_of g j - i - n
left_reached g j i n m true e = omega arith
left_reached g j i n m false e = omega (arith, ltb-false (i + n) (length_of g j) e)

-- n units leave n fewer, over the work alone
left_units : (g : Geometry) (n : ℕ) (m : Machine) (w : Work) → m.state.work ≡ w → WorkSound g w → left_in g (units g n m).state.work ≡ left_in g w - n
left_units g n m Idle e k = rw (units_idle g n m e, e) (omega arith)
left_units g n m (Busy j i) e k =
    rw (units_busy g j n i m k.unit_left e) (left_reached g j i n (with_store (many g j i n m.store) m) (ltb (i + n) (length_of g j)) refl)

-- units keep a machine sound
units_keep : (g : Geometry) → Sound g → (n : ℕ) (m : Machine) → SoundMachine g m → SoundMachine g (units g n m)
unfolding step unitwise
units_keep g s n m h = step_keeps g s m (Units n) tt h

-- the units left of a sound machine
left_sound : (g : Geometry) (m : Machine) → Sound g → SoundMachine g m → units_left g m.state ≡ left_in g m.state.work
left_sound g m s h = sym (left_told g m.state (T_true _ ((part.sound_exactly g).1 s)) (T_true _ ((state.sound_exactly g m.state).1 h.state)) m.state.work refl)

pub left_after : LeftAfter
left_after g m n p =
    let h = passed_sound g m p in
    left_sound g (units g n m) h.0 (units_keep g h.0 n m h.1)
    ∙ left_units g n m m.state.work refl h.1.state.sound_work
    ∙ ap (λ (k : ℕ). k - n) (sym (left_sound g m h.0 h.1))
