-- Every step keeps soundness and lengths, and so does every run.
use mathlib.Core.Bool.{false}
use mathlib.Core.List.{[], ◌∷◌}
use mathlib.Core.Path.{◌≡◌, refl, ◌∙◌}
use Prim.Native.Nat.{ℕ, zero, suc, ◌%◌}
use native.Mathlib.Omega.{arith}
use lib.Dec.{T, ltb, eqb→eq}
use lib.ListN.{length, length-replicate}
use borrow.Author.Tests.{eq-eqb}
use Rattle.part.specs.Part.{Sound}
use Rattle.part.specs.declared.Geometry.{Geometry}
use Rattle.part.proofs.Choice.{cond_keep, true_T}
use Rattle.buslog.specs.declared.Record.{Record}
use Rattle.buslog.specs.declared.Record.TheVariants.{Select, Shift, Deselect, Units, Level, Power}
use Rattle.registers.specs.Registers.{oip, oip_cleared, at_power_up}
use Rattle.array.specs.Jobs.{length_of}
use Rattle.array.specs.declared.Job.TheVariants.{Read}
use Rattle.array.specs.declared.Work.{Work}
use Rattle.array.specs.declared.Work.TheVariants.{Idle, Busy}
use Rattle.device.specs.Machine.{Machine}
use Rattle.device.specs.Work.{unit_of, units, unitwise}
use Rattle.device.specs.Instructions.{shifts, acted, deselects}
use Rattle.device.specs.Step.{off, powered, step, run}
use Rattle.soundness.specs.Soundness.{InProgress, WorkSound}
use Rattle.kept.specs.Kept.{SoundMachine, ByteIn, StepKeeps, RunKeeps}
use Rattle.kept.proofs.Masks.{start_in_masks}
use Rattle.kept.proofs.Made.{fits_cache, sound_made}
use Rattle.kept.proofs.Lengths.{cached_long}
use Rattle.kept.proofs.Sane.{Ready, sane_made, Sane, over_state, over_memory, none_high, begun_sane, units_sane}
use Rattle.kept.proofs.Requests.{acted_sane}
use Rattle.kept.proofs.Transfers.{OnBus, fresh_on_bus, selects_on_bus, shifted_on_bus, status_on_bus}

-- ---- a sound machine is one that is sane and whose transfer is as it should be

record Held (g : Geometry) (m : Machine) : Type 0 where
  pub sane : Sane g m
  pub bus : OnBus m.state.regs.c0 m.state.bus.transfer

-- OIP and the work, from the record of a sound state and back
ready_of : (g : Geometry) (c : ℕ) (w : Work) → (T (oip c) → InProgress w) → (InProgress w → T (oip c)) → WorkSound g w → Ready g (c % 2) w
ready_of g c Idle p q s = let odd : c % 2 ≡ 1 → ⊥ = λ e. p (true_T (oip c) (eq-eqb (c % 2) 1 e)) in omega arith
ready_of g c (Busy j i) p q s = (eqb→eq (c % 2) 1 (q tt), s)

in_progress : (g : Geometry) (c : ℕ) (w : Work) → Ready g (c % 2) w → T (oip c) → InProgress w
in_progress g c Idle r t = omega (arith, eqb→eq (c % 2) 1 t)
in_progress g c (Busy j i) r t = tt

shown : (g : Geometry) (c : ℕ) (w : Work) → Ready g (c % 2) w → InProgress w → T (oip c)
shown g c Idle r t = absurd t
shown g c (Busy j i) r t = true_T (oip c) (eq-eqb (c % 2) 1 r.0)

work_of : (g : Geometry) (o : ℕ) (w : Work) → Ready g o w → WorkSound g w
work_of g o Idle r = tt
work_of g o (Busy j i) r = r.1

-- the whole, from a sound machine and back
held_of : (g : Geometry) (m : Machine) → SoundMachine g m → Held g m
held_of g m h =
    let s = h.state in
    record {
      sane =
          sane_made g m.state.regs m.state.work m.store m.counts (record { a0 = s.a0_within; b0 = s.b0_within; d0 = s.d0_within }) s.c0_high
          (ready_of g m.state.regs.c0 m.state.work s.oip_exactly.0 s.oip_exactly.1 s.sound_work) h.fits h.counts_long;
      bus = record { count_small = s.count_small; column_small = s.column_small; lets_in = s.lets_in };
    }

of_held : (g : Geometry) (m : Machine) → Held g m → SoundMachine g m
of_held g m h =
    let r : Ready g (m.state.regs.c0 % 2) m.state.work = h.sane.ready in
    sound_made g m
    record {
      a0_within = h.sane.masks.a0;
      b0_within = h.sane.masks.b0;
      d0_within = h.sane.masks.d0;
      c0_high = h.sane.high;
      oip_exactly = (in_progress g m.state.regs.c0 m.state.work r, shown g m.state.regs.c0 m.state.work r);
      count_small = h.bus.count_small;
      column_small = h.bus.column_small;
      sound_work = work_of g (m.state.regs.c0 % 2) m.state.work r;
      lets_in = h.bus.lets_in;
    }
    h.sane.fits h.sane.counts

-- ---- units leave the bus alone, and OIP is 1 after them only where it was

-- an operation's end clears OIP
cleared_off : (c : ℕ) → T (oip (oip_cleared c)) → T (oip c)
cleared_off c t = absurd (omega (arith, eqb→eq (oip_cleared c % 2) 1 t))

unit_on_bus : (g : Geometry) (w : Work) (m : Machine) → OnBus m.state.regs.c0 m.state.bus.transfer → OnBus (unit_of g w m).state.regs.c0 (unit_of g w m).state.bus.transfer
unfolding unit_of
unit_on_bus g Idle m h = h
unit_on_bus g (Busy j i) m h =
    cond_keep (λ (m : Machine). OnBus m.state.regs.c0 m.state.bus.transfer) (ltb (suc i) (length_of g j)) (λ e. h)
    (λ e. status_on_bus m.state.regs.c0 (oip_cleared m.state.regs.c0) m.state.bus.transfer (cleared_off m.state.regs.c0) h)

units_on_bus : (g : Geometry) (n : ℕ) (m : Machine) → OnBus m.state.regs.c0 m.state.bus.transfer → OnBus (units g n m).state.regs.c0 (units g n m).state.bus.transfer
unfolding units
units_on_bus g zero m h = h
units_on_bus g (suc n) m h = units_on_bus g n (unit_of g m.state.work m) (unit_on_bus g m.state.work m h)

-- ---- the step

-- power lost: the registers at their power-up values, nothing in progress, the cache register as long as it was
off_sane : (g : Geometry) (m : Machine) → Sane g m → Sane g (off g m)
unfolding off
off_sane g m h =
    over_state g at_power_up Idle (start_in_masks g) none_high refl
    (over_memory g _ m.counts (fits_cache g _ m.store (length-replicate (length m.store.cache) 0xFF ∙ h.fits.cache_long) h.fits) h.counts h)

-- each record of the log
held_step : (g : Geometry) → Sound g → (m : Machine) (e : Record) → ByteIn e → Held g m → Held g (step g (unitwise g) m e)
unfolding step shifts deselects powered off unitwise
held_step g s m Select b h = record { sane = h.sane; bus = selects_on_bus m.state.regs.c0 m.state.bus h.bus }
held_step g s m (Shift v) b h =
    record {
      sane = over_memory g _ m.counts (fits_cache g _ m.store (cached_long g m.state.bus v m.store.cache ∙ h.sane.fits.cache_long) h.sane.fits) h.sane.counts h.sane;
      bus = shifted_on_bus g m.state.regs.c0 v m.state.bus b h.bus;
    }
held_step g s m Deselect b h =
    cond_keep (Held g) m.state.bus.transfer.selected
    (λ e. record { sane = acted_sane g s m h.sane; bus = fresh_on_bus (acted g (unitwise g) m).state.regs.c0 false }) (λ e. h)
held_step g s m (Units n) b h = record { sane = units_sane g n m h.sane; bus = units_on_bus g n m h.bus }
held_step g s m (Level v) b h = record { sane = h.sane; bus = h.bus }
held_step g s m Power b h = record { sane = begun_sane g s (Read (record { 0 = 0 })) (off g m) tt (off_sane g m h.sane); bus = fresh_on_bus _ false }

pub step_keeps : StepKeeps
step_keeps g s m e b h = of_held g (step g (unitwise g) m e) (held_step g s m e b (held_of g m h))

pub run_keeps : RunKeeps
unfolding run
run_keeps g s m [] b h = h
run_keeps g s m (e ∷ es) b h = run_keeps g s (step g (unitwise g) m e) es b.1 (step_keeps g s m e b.0 h)
