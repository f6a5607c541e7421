-- The test of a sound state says exactly what the record says, and the power-up state is sound.
use mathlib.Core.Bool.{◌&&◌}
use mathlib.Core.Logic.{◌↔◌}
use mathlib.Core.Path.{◌≡◌}
use Prim.Native.Nat.{ℕ, ◌/◌, ◌≤◌, ◌<◌}
use native.Mathlib.Omega.{arith}
use lib.Bits.{bit_and}
use lib.Dec.{T, leb, ltb, eqb, leb→le, le→leb, ltb→lt, lt→ltb, eqb→eq, T_not, not_T}
use borrow.Author.Tests.{eq-eqb}
use Rattle.part.specs.Part.{rows}
use Rattle.part.specs.declared.Geometry.{Geometry}
use Rattle.part.proofs.Choice.{true_T}
use Rattle.registers.specs.Registers.{oip, a0_mask, b0_mask, d0_mask}
use Rattle.registers.specs.declared.Registers.{Registers}
use Rattle.transfer.specs.declared.Transfer.{Transfer}
use Rattle.array.specs.Jobs.{length_of, InArray, Going}
use Rattle.array.specs.declared.Job.{Job}
use Rattle.array.specs.declared.Job.TheVariants.{Read, Program, Erase, Restart}
use Rattle.array.specs.declared.Work.{Work}
use Rattle.array.specs.declared.Work.TheVariants.{Idle, Busy}
use Rattle.soundness.specs.Soundness.{Within, HighSound, InProgress, WorkSound, let_in, within, high_sound, registers_sound, transfer_sound, in_array, work_sound, calm}
use Rattle.device.specs.Work.{unitwise}
use Rattle.device.specs.Step.{off, powered}
use Rattle.device.specs.Sound.{SoundState, sound_state}
use Rattle.kept.specs.Kept.{SoundExactly, PowerUpIs, PowerUpSound}
use Rattle.kept.proofs.Masks.{start_in_masks}
use Rattle.kept.proofs.Sane.{none_high}
use Rattle.kept.proofs.Tests.{some_T, unless, both, four}

-- ---- the tests of numbers

eq_T : (a b : ℕ) → T (eqb a b) ↔ a ≡ b
eq_T a b = (eqb→eq a b, λ h. true_T (eqb a b) (eq-eqb a b h))

le_T : (a b : ℕ) → T (leb a b) ↔ a ≤ b
le_T a b = (leb→le a b, le→leb a b)

lt_T : (a b : ℕ) → T (ltb a b) ↔ a < b
lt_T a b = (ltb→lt a b, lt→ltb a b)

-- ---- the parts of the test

in_array_T : (g : Geometry) (j : Job) → T (in_array g j) ↔ InArray g j
in_array_T g (Read r) = (λ t. tt, λ t. tt)
in_array_T g (Program r) = lt_T r.0 (rows g)
in_array_T g (Erase r) = lt_T r.0 (rows g)
in_array_T g Restart = (λ t. tt, λ t. tt)

-- OIP is 1 exactly when an operation is in progress, and that is sound
work_T : (g : Geometry) (c : ℕ) (w : Work) → T (work_sound g c w) ↔ ((T (oip c) ↔ InProgress w) × WorkSound g w)
work_T g c Idle = (λ t. ((λ u. T_not (oip c) t u, λ z. absurd z), tt), λ h. not_T (oip c) h.0.0)
work_T g c (Busy j i) = (in_words, as_test)
  where
    three : T (oip c && ltb i (length_of g j) && in_array g j) ↔ ((T (oip c) × (i < length_of g j)) × InArray g j)
    three = both (oip c && ltb i (length_of g j)) (in_array g j) (both (oip c) (ltb i (length_of g j)) (λ t. t, λ t. t) (lt_T i (length_of g j))) (in_array_T g j)

    in_words : T (work_sound g c (Busy j i)) → (T (oip c) ↔ Unit {0}) × Going g j i
    in_words t = let h = three.0 t in ((λ u. tt, λ u. h.0.0), record { unit_left = h.0.1; in_array = h.1 })

    as_test : (T (oip c) ↔ Unit {0}) × Going g j i → T (work_sound g c (Busy j i))
    as_test h = three.1 ((h.0.1 tt, h.1.unit_left), h.1.in_array)

-- while busy, a transfer with a byte in it was let in
calm_T : (c : ℕ) (t : Transfer) → T (calm c t) ↔ (T (oip c) → T t.selected → 1 ≤ t.count → T (let_in t))
calm_T c t =
    let u = unless (oip c) t.selected (eqb t.count 0) (let_in t) in
    (λ k o s n. u.0 k o s ((some_T t.count).1 n), λ f. u.1 (λ o s n. f o s ((some_T t.count).0 n)))

-- the high bits of C0h, the registers, and the transfer
high_T : (h : ℕ) → T (high_sound h) ↔ HighSound h
high_T h = eq_T h 0

registers_T : (g : Geometry) (r : Registers) → T (registers_sound g r) ↔ (Within (a0_mask g) r.a0 × Within b0_mask r.b0 × Within d0_mask r.d0 × HighSound (r.c0 / 16))
registers_T g r =
    four (within (a0_mask g) r.a0) (within b0_mask r.b0) (within d0_mask r.d0) (high_sound (r.c0 / 16))
    (eq_T (bit_and r.a0 (a0_mask g)) r.a0) (eq_T (bit_and r.b0 b0_mask) r.b0) (eq_T (bit_and r.d0 d0_mask) r.d0) (high_T (r.c0 / 16))

transfer_T : (t : Transfer) → T (transfer_sound t) ↔ ((t.count ≤ 5) × (t.column.0 ≤ 4096))
transfer_T t = both (leb t.count 5) (leb t.column.0 4096) (le_T t.count 5) (le_T t.column.0 4096)

-- ---- the whole

pub sound_exactly : SoundExactly
unfolding sound_state
sound_exactly g s = (in_words, as_test)
  where
    r : Registers
    r = s.regs

    t : Transfer
    t = s.bus.transfer

    all : T (sound_state g s)
        ↔ ((Within (a0_mask g) r.a0 × Within b0_mask r.b0 × Within d0_mask r.d0 × HighSound (r.c0 / 16)) × ((t.count ≤ 5) × (t.column.0 ≤ 4096))
        × ((T (oip r.c0) ↔ InProgress s.work) × WorkSound g s.work) × (T (oip r.c0) → T t.selected → 1 ≤ t.count → T (let_in t)))
    all =
        four (registers_sound g r) (transfer_sound t) (work_sound g r.c0 s.work) (calm r.c0 t)
        (registers_T g r) (transfer_T t) (work_T g r.c0 s.work) (calm_T r.c0 t)

    in_words : T (sound_state g s) → SoundState g s
    in_words x =
        let h = all.0 x in
        record {
          a0_within = h.0.0;
          b0_within = h.0.1;
          d0_within = h.0.2;
          c0_high = h.0.3;
          count_small = h.1.0;
          column_small = h.1.1;
          oip_exactly = h.2.0;
          sound_work = h.2.1;
          lets_in = h.3;
        }

    as_test : SoundState g s → T (sound_state g s)
    as_test h = all.1 ((h.a0_within, h.b0_within, h.d0_within, h.c0_high), (h.count_small, h.column_small), (h.oip_exactly, h.sound_work), h.lets_in)

-- ---- the power-up state

pub power_up_is : PowerUpIs
unfolding powered off unitwise
power_up_is g m e = rw e

pub power_up_sound : PowerUpSound
power_up_sound g s =
    record {
      a0_within = (start_in_masks g).a0;
      b0_within = (start_in_masks g).b0;
      d0_within = (start_in_masks g).d0;
      c0_high = none_high;
      oip_exactly = (λ t. tt, λ t. tt);
      count_small = omega arith;
      column_small = omega arith;
      sound_work = record { unit_left = omega (arith, s.some_bytes); in_array = tt };
      lets_in = λ o t n. absurd t;
    }
