-- The start: the power-up state exactly, and the whole run's beginning is the unitwise one's with its operation worked to its end.
use mathlib.Core.Bool.{Bool, false, not, ◌&&◌}
use mathlib.Core.Path.{◌≡◌, refl, ap, subst⁻¹}
use Prim.Native.Nat.{ℕ, ◌-◌}
use native.Mathlib.Omega.{arith}
use lib.Dec.{T, eqb, eqb→eq}
use borrow.Author.Tests.{not-true}
use Rattle.part.specs.Part.{Sound, page}
use Rattle.part.specs.declared.Geometry.{Geometry}
use Rattle.part.proofs.Choice.{cond_keep, T_true, true_T, and_l, and_r}
use Rattle.buslog.specs.declared.Record.TheVariants.{Units}
use Rattle.registers.specs.declared.Registers.{Registers}
use Rattle.array.specs.Jobs.{Store, Fits, length_of}
use Rattle.array.specs.declared.Job.TheVariants.{Read, Program, Erase, Restart}
use Rattle.array.specs.declared.Work.{Work}
use Rattle.array.specs.declared.Work.TheVariants.{Idle, Busy}
use Rattle.codes.specs.Codes.{byte_of}
use Rattle.transfer.specs.Transfer.{fresh}
use Rattle.transfer.specs.declared.Transfer.{Transfer}
use Rattle.codes.specs.declared.Instruction.{Instruction}
use Rattle.device.specs.Machine.{Machine, with_state, with_store, with_work}
use Rattle.device.specs.Work.{ended, unitwise}
use Rattle.device.specs.Step.{off, powered, power_up, step}
use Rattle.device.specs.declared.State.{State}
use Rattle.kept.specs.Kept.{SoundMachine}
use Rattle.kept.proofs.Steps.{step_keeps}
use Rattle.whole.specs.Whole.{done, whole}
use Rattle.whole.specs.Orderly.{rests, idle, power_up_at, first_read, up_registers, up_transfer, power_up?, starts}
use Rattle.whole.specs.Demand.{settled, PowerUpExactly}
use Rattle.whole.proofs.Pages.{units_whole}
use Rattle.whole.proofs.Finish.{finish_as, finish, finish_is_units}
use Rattle.whole.proofs.Quiet.{none_ignored}

-- ---- the power-up state, field by field

split : (a b : Bool) → T (a && b) → T a × T b
split a b t = (and_l a b t, and_r a b t)

-- a record of equal fields
register_fields : (a b c d : ℕ) → T (eqb a 0x38 && eqb b 0x10 && eqb c 0x01 && eqb d 0x40) → record { a0 = a; b0 = b; c0 = c; d0 = d } ≡ power_up.regs
register_fields a b c d t =
    let p = split (eqb a 0x38 && eqb b 0x10 && eqb c 0x01) (eqb d 0x40) t in
    let q = split (eqb a 0x38 && eqb b 0x10) (eqb c 0x01) p.0 in
    let u = split (eqb a 0x38) (eqb b 0x10) q.0 in
    rw (eqb→eq a 0x38 u.0, eqb→eq b 0x10 u.1, eqb→eq c 0x01 q.1, eqb→eq d 0x40 p.1)

transfer_fields : (on : Bool) (n : ℕ) (i : Instruction) (a b c k : ℕ) → T (not on && eqb n 0 && eqb (byte_of i) 256 && eqb a 0 && eqb b 0 && eqb c 0 && eqb k 0)
    → record { selected = on; count = n; instruction = i; first = a; second = b; third = c; column = record { 0 = k } } ≡ fresh false
transfer_fields on n i a b c k t =
    let p = split (not on && eqb n 0 && eqb (byte_of i) 256 && eqb a 0 && eqb b 0 && eqb c 0) (eqb k 0) t in
    let q = split (not on && eqb n 0 && eqb (byte_of i) 256 && eqb a 0 && eqb b 0) (eqb c 0) p.0 in
    let u = split (not on && eqb n 0 && eqb (byte_of i) 256 && eqb a 0) (eqb b 0) q.0 in
    let v = split (not on && eqb n 0 && eqb (byte_of i) 256) (eqb a 0) u.0 in
    let w = split (not on && eqb n 0) (eqb (byte_of i) 256) v.0 in
    let x = split (not on) (eqb n 0) w.0 in
    rw (not-true on (T_true (not on) x.0), eqb→eq n 0 x.1, none_ignored i w.1, eqb→eq a 0 v.1, eqb→eq b 0 u.1, eqb→eq c 0 q.1, eqb→eq k 0 p.1)

work_up : (w : Work) → T (first_read w) → w ≡ power_up.work
work_up Idle t = absurd t
work_up (Busy (Read r) i) t =
    let p = split (eqb r.0 0) (eqb i 0) t in
    rw (eqb→eq i 0 p.1) (ap (λ (k : ℕ). Busy (Read (record { 0 = k })) 0) (eqb→eq r.0 0 p.0))
work_up (Busy (Program r) i) t = absurd t
work_up (Busy (Erase r) i) t = absurd t
work_up (Busy Restart i) t = absurd t

up : (s : State) → T (power_up? s) → s ≡ power_up_at s.bus.pins.wp
up s t =
    let x = s.bus.transfer in
    let r = s.regs in
    let p = split (up_registers r && up_transfer x) (first_read s.work) t in
    let q = split (up_registers r) (up_transfer x) p.0 in
    same s.bus.pins.wp (register_fields r.a0 r.b0 r.c0 r.d0 q.0)
    (transfer_fields x.selected x.count x.instruction x.first x.second x.third x.column.0 q.1) (work_up s.work p.1)
  where
    same : (wp : Bool) {r r' : Registers} {x x' : Transfer} {w w' : Work} → r ≡ r' → x ≡ x' → w ≡ w'
        → ◌≡◌ {A = State} (record { regs = r; bus = record { pins = record { wp = wp }; transfer = x }; work = w }) (record { regs = r'; bus = record { pins = record { wp = wp }; transfer = x' }; work = w' })
    same wp e f h = rw (e, f, h)

pub power_up_exactly : PowerUpExactly
power_up_exactly s = (up s, λ e. subst⁻¹ (λ (x : State). T (power_up? x)) e tt)

-- ---- the beginning

-- at power-up, the read worked to its end is the read done whole, whatever the cache register held
finish_up : (g : Geometry) → Sound g → (wp : Bool) (m : Machine) → Fits g m.store → finish g (with_state (power_up_at wp) m) ≡ powered g (whole g) (with_state (power_up_at wp) m)
unfolding powered off whole done
finish_up g s wp m f =
    let p : page g - 0 ≡ page g = omega arith in
    rw p (ap (λ (x : Store). ended g (Read (record { 0 = 0 })) (with_store x (with_state (power_up_at wp) m))) (units_whole g s (Read (record { 0 = 0 })) tt m.store f))

pub idle_finish : (g : Geometry) (m : Machine) → T (idle m.state) → finish g m ≡ m
idle_finish g m t = go m.state.work t
  where
    go : (w : Work) → T (rests w) → finish_as g w m ≡ m
    go Idle t = refl
    go (Busy j i) t = absurd t

pub start_finish : (g : Geometry) → Sound g → (m : Machine) → Fits g m.store → T (starts m.state) → finish g m ≡ settled g m
unfolding settled
start_finish g s m f t =
    cond_keep (λ (x : Machine). finish g m ≡ x) (power_up? m.state)
    (λ e. subst⁻¹ (λ (x : State). finish g (with_state x m) ≡ powered g (whole g) (with_state x m)) (up m.state (true_T _ e)) (finish_up g s m.state.bus.pins.wp m f))
    (λ e. idle_finish g m (rw e at t))

-- ---- worked to its end, a sound machine is sound

pub finish_sound : (g : Geometry) → Sound g → (m : Machine) → SoundMachine g m → SoundMachine g (finish g m)
unfolding step unitwise
finish_sound g s m h = go m.state.work m h
  where
    go : (w : Work) (m : Machine) → SoundMachine g (with_work w m) → SoundMachine g (finish g (with_work w m))
    go Idle m h = h
    go (Busy j i) m h =
        subst⁻¹ (SoundMachine g) (finish_is_units g j i m h.state.sound_work.unit_left)
        (step_keeps g s (with_work (Busy j i) m) (Units (length_of g j - i)) tt h)
