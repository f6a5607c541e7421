-- What an instruction does as chip select rises keeps all but the bus sound: a request begins only for a row in the array.
use mathlib.Core.Bool.{true}
use mathlib.Core.List.{List}
use mathlib.Core.Path.{◌≡◌, subst, ◌∙◌}
use Prim.Native.Nat.{ℕ, ◌+◌, ◌*◌, ◌/◌, ◌%◌, ◌<◌}
use native.Mathlib.Omega.{arith}
use lib.ListN.{length}
use Rattle.part.specs.Part.{rows, Sound}
use Rattle.part.specs.declared.Geometry.{Geometry}
use Rattle.part.specs.declared.Row.{Row}
use Rattle.part.proofs.Choice.{cond_keep}
use Rattle.registers.specs.Registers.{wel, wel_set, wel_cleared, request_cleared, e_fail_set, p_fail_set, reset_status, register_written}
use Rattle.transfer.specs.Transfer.{row_of, full}
use Rattle.transfer.specs.declared.Transfer.{Transfer}
use Rattle.codes.specs.declared.Instruction.{Instruction}
use Rattle.codes.specs.declared.Instruction.TheVariants.{Ignored, WriteEnable, WriteDisable, GetFeature, SetFeature, ReadId, PageRead, ReadCache, Load, LoadRandom, Execute, BlockErase, Reset}
use Rattle.array.specs.declared.Job.TheVariants.{Read, Program, Erase, Restart}
use Rattle.array.specs.declared.Work.TheVariants.{Idle}
use Rattle.soundness.specs.Soundness.{HighSound}
use Rattle.device.specs.Machine.{Machine, with_status, with_work, with_counts}
use Rattle.device.specs.Work.{begins, unitwise}
use Rattle.requests.specs.Requests.{Fate, begins?, program_fate, erase_fate, counted, uncounted}
use Rattle.requests.proofs.Fates.{erase_inside, program_begins}
use Rattle.device.specs.Instructions.{requested, programs, erases, resets, effect, acted}
use Rattle.kept.proofs.Masks.{written_in_masks}
use Rattle.kept.proofs.Lengths.{counted_long, uncounted_long}
use Rattle.kept.proofs.Sane.{Sane, over_state, over_memory, none_high, status_sane, idle_sane, begun_sane}

-- a reset clears the high bits
reset_none : (c : ℕ) → 0 ≡ reset_status c / 16
reset_none c = omega arith

-- ---- requests

counts_sane : (g : Geometry) (l : List ℕ) (m : Machine) → length l ≡ rows g → Sane g m → Sane g (with_counts l m)
counts_sane g l m e h = over_memory g m.store l h.fits e h

-- a request keeps soundness if its beginning does, and if its fail bit, set where bits 1 to 3 are 0, leaves the high bits and OIP alone
requested_sane : (g : Geometry) (f : Fate) (go : Machine → Machine) (fail : ℕ → ℕ) (m : Machine)
    → ((h o : ℕ) → o < 2 → (fail (h * 16 + o) / 16 ≡ h) × (fail (h * 16 + o) % 2 ≡ o))
    → ((m : Machine) → begins? f ≡ true → Sane g m → Sane g (go m))
    → Sane g m → Sane g (requested f go fail m)
requested_sane g f go fail m q k h =
    cond_keep (Sane g) (wel c)
    (λ e. cond_keep (Sane g) (begins? f)
    (λ e. k (with_status (request_cleared c) m) e (status_sane g (request_cleared c) m (omega arith) (omega arith) h))
    (λ e. status_sane g (fail (request_cleared c)) m (q (c / 16) (c % 2) (omega arith)).0 (q (c / 16) (c % 2) (omega arith)).1 h))
    (λ e. h)
  where
    c : ℕ
    c = m.state.regs.c0

module _ (g : Geometry) (s : Sound g) where
  programs_sane : (r : Row) (m : Machine) → Sane g m → Sane g (programs g (unitwise g) r m)
  unfolding programs unitwise
  programs_sane r m h =
      requested_sane g (program_fate g m.state.regs.a0 r m.counts) (λ m'. begins (Program r) (with_counts (counted r m'.counts) m')) p_fail_set m
      (λ h o b. (omega arith, omega arith))
      (λ m' e h'. begun_sane g s (Program r) (with_counts (counted r m'.counts) m') (program_begins g m.state.regs.a0 r m.counts e).0
      (counts_sane g (counted r m'.counts) m' (counted_long r m'.counts ∙ h'.counts) h'))
      h

  erases_sane : (r : Row) (m : Machine) → Sane g m → Sane g (erases g (unitwise g) r m)
  unfolding erases unitwise
  erases_sane r m h =
      requested_sane g (erase_fate g m.state.regs.a0 r) (λ m'. begins (Erase r) (with_counts (uncounted g r m'.counts) m')) e_fail_set m
      (λ h o b. (omega arith, omega arith))
      (λ m' e h'. begun_sane g s (Erase r) (with_counts (uncounted g r m'.counts) m') (erase_inside g m.state.regs.a0 r e)
      (counts_sane g (uncounted g r m'.counts) m' (uncounted_long g r m'.counts ∙ h'.counts) h'))
      h

  -- what each instruction does
  effect_sane : (i : Instruction) (m : Machine) → Sane g m → Sane g (effect g (unitwise g) i m)
  unfolding effect resets unitwise register_written
  effect_sane WriteEnable m h = status_sane g (wel_set m.state.regs.c0) m (omega arith) (omega arith) h
  effect_sane WriteDisable m h = status_sane g (wel_cleared m.state.regs.c0) m (omega arith) (omega arith) h
  effect_sane SetFeature m h =
      let t : Transfer = m.state.bus.transfer in
      over_state g (register_written g m.state.bus.pins t.first t.second m.state.regs) m.state.work
      (written_in_masks g m.state.bus.pins t.first t.second m.state.regs h.masks) h.high h.ready h
  effect_sane PageRead m h = begun_sane g s (Read (row_of m.state.bus.transfer)) m tt h
  effect_sane Execute m h = programs_sane (row_of m.state.bus.transfer) m h
  effect_sane BlockErase m h = erases_sane (row_of m.state.bus.transfer) m h
  effect_sane Reset m h =
      let c = m.state.regs.c0 in
      begun_sane g s Restart (with_work Idle (with_status (reset_status c) m)) tt (idle_sane g (reset_status c) m (subst HighSound (reset_none c) none_high) (omega arith) h)
  effect_sane Ignored m h = h
  effect_sane GetFeature m h = h
  effect_sane ReadId m h = h
  effect_sane ReadCache m h = h
  effect_sane Load m h = h
  effect_sane LoadRandom m h = h

  pub acted_sane : (m : Machine) → Sane g m → Sane g (acted g (unitwise g) m)
  unfolding acted
  acted_sane m h = cond_keep (Sane g) (full m.state.bus.transfer) (λ e. effect_sane m.state.bus.transfer.instruction m h) (λ e. h)
