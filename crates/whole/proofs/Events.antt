-- The unitwise machine, its operation worked to its end, follows the whole machine: the lemma of each record.
use mathlib.Core.Bool.{true}
use mathlib.Core.List.{List}
use mathlib.Core.Path.{◌≡◌, refl, sym, ap, ◌∙◌}
use Prim.Native.Nat.{ℕ, ◌%◌}
use native.Mathlib.Omega.{arith}
use lib.Dec.{T}
use lib.ListN.{length, replicate, length-replicate}
use borrow.Author.Tests.{eq-eqb}
use Rattle.part.specs.Part.{Sound}
use Rattle.part.specs.declared.Geometry.{Geometry}
use Rattle.part.specs.declared.Row.{Row}
use Rattle.part.proofs.Choice.{cond_two, true_T}
use Rattle.buslog.specs.declared.Record.{Record}
use Rattle.buslog.specs.declared.Record.TheVariants.{Select, Shift, Deselect, Units, Level, Power}
use Rattle.registers.specs.Registers.{oip, wel, request_cleared, e_fail_set, p_fail_set, reset_status}
use Rattle.array.specs.Jobs.{with_cache, Fits}
use Rattle.array.specs.declared.Job.{Job}
use Rattle.array.specs.declared.Job.TheVariants.{Read, Program, Erase, Restart}
use Rattle.array.specs.declared.Work.{Work}
use Rattle.array.specs.declared.Work.TheVariants.{Idle, Busy}
use Rattle.transfer.specs.Transfer.{row_of, full, ends, shifted_in}
use Rattle.transfer.specs.declared.Bus.{Bus}
use Rattle.codes.specs.declared.Instruction.{Instruction}
use Rattle.codes.specs.declared.Instruction.TheVariants.{Ignored, WriteEnable, WriteDisable, GetFeature, SetFeature, ReadId, PageRead, ReadCache, Load, LoadRandom, Execute, BlockErase, Reset}
use Rattle.device.specs.Machine.{Machine, with_status, with_work, with_counts, over_bus, over_store}
use Rattle.device.specs.Work.{begins, unitwise}
use Rattle.device.specs.Instructions.{shifts, requested, programs, erases, resets, effect, acted, deselects}
use Rattle.device.specs.Step.{off, powered, step}
use Rattle.requests.specs.Requests.{Fate, begins?, program_fate, erase_fate, counted, uncounted}
use Rattle.requests.proofs.Fates.{erase_inside, program_begins}
use Rattle.kept.specs.Kept.{SoundMachine}
use Rattle.kept.proofs.Made.{fits_cache}
use Rattle.whole.specs.Whole.{done, whole}
use Rattle.whole.specs.Orderly.{allowed}
use Rattle.whole.proofs.Finish.{finish, finish_bus, finish_units, finish_idle, finish_begun}
use Rattle.whole.proofs.Quiet.{Quiet, cached_quiet, shifted_same, deselects_quiet}

-- ---- what a sound machine tells

-- idle, OIP is 0
pub even : (g : Geometry) (m : Machine) → SoundMachine g (with_work Idle m) → m.state.regs.c0 % 2 ≡ 0
even g m h = let odd : m.state.regs.c0 % 2 ≡ 1 → ⊥ = λ e. h.state.oip_exactly.0 (true_T (oip m.state.regs.c0) (eq-eqb (m.state.regs.c0 % 2) 1 e)) in omega arith

-- busy, its transfer is one that was let in
pub quiet : (g : Geometry) (j : Job) (i : ℕ) (m : Machine) → SoundMachine g (with_work (Busy j i) m) → Quiet m.state.bus.transfer
quiet g j i m h = h.state.lets_in (h.state.oip_exactly.1 tt)

-- ---- at a busy machine

-- a byte shifted moves the transfer on, and no more
shifts_quiet : (g : Geometry) (b : ℕ) (m : Machine) → Quiet m.state.bus.transfer → shifts g b m ≡ over_bus (shifted_in g (oip m.state.regs.c0) b) m
unfolding shifts
shifts_quiet g b m q =
    ap (λ (l : List ℕ). over_bus (shifted_in g (oip m.state.regs.c0) b) (over_store (with_cache l) m)) (cached_quiet g m.state.bus b m.store.cache q)

module _ (g : Geometry) (j : Job) (i : ℕ) (m : Machine) (sound : SoundMachine g (with_work (Busy j i) m)) where
  busy_step : (e : Record) → T (allowed (with_work (Busy j i) m).state e)
      → finish g (step g (unitwise g) (with_work (Busy j i) m) e) ≡ step g (whole g) (finish g (with_work (Busy j i) m)) e
  unfolding step unitwise whole
  busy_step e a = go e a
    where
      M : Machine
      M = with_work (Busy j i) m

      C : Machine
      C = finish g M

      q : Quiet m.state.bus.transfer
      q = quiet g j i m sound

      go : (e : Record) → T (allowed M.state e) → finish g (step g (unitwise g) M e) ≡ step g (whole g) C e
      go Select a = refl
      go (Shift b) a =
          ap (finish g) (shifts_quiet g b M q)
          ∙ ap (λ (x : Bus). over_bus (λ y. x) C) (shifted_same g (oip M.state.regs.c0) (oip C.state.regs.c0) b m.state.bus a)
          ∙ sym (shifts_quiet g b C q)
      go Deselect a =
          ap (finish g) (deselects_quiet g (unitwise g) M q a)
          ∙ cond_two (λ (x y : Machine). finish g x ≡ y) m.state.bus.transfer.selected (λ e. refl) (λ e. refl)
          ∙ sym (deselects_quiet g (whole g) C q a)
      go (Units n) a = finish_units g j i n m sound.state.sound_work.unit_left
      go (Level v) a = refl
      go Power a = absurd a

-- ---- at an idle machine

module _ (g : Geometry) (s : Sound g) where
  -- a request: what begins is done whole
  requested_idle : (f : Fate) (go go' : Machine → Machine) (fail : ℕ → ℕ) (m : Machine)
      → (begins? f ≡ true → finish g (go (with_status (request_cleared m.state.regs.c0) (with_work Idle m))) ≡ go' (with_status (request_cleared m.state.regs.c0) (with_work Idle m)))
      → finish g (requested f go fail (with_work Idle m)) ≡ requested f go' fail (with_work Idle m)
  requested_idle f go go' fail m k =
      cond_two (λ (x y : Machine). finish g x ≡ y) (wel m.state.regs.c0) (λ e. cond_two (λ (x y : Machine). finish g x ≡ y) (begins? f) k (λ e. refl)) (λ e. refl)

  programs_idle : (r : Row) (m : Machine) → SoundMachine g (with_work Idle m) → finish g (programs g (unitwise g) r (with_work Idle m)) ≡ programs g (whole g) r (with_work Idle m)
  unfolding programs unitwise whole
  programs_idle r m h =
      requested_idle (program_fate g m.state.regs.a0 r m.counts) (λ m. begins (Program r) (with_counts (counted r m.counts) m)) (λ m. over_store (done g (Program r)) (with_counts (counted r m.counts) m)) p_fail_set m
      (λ e. finish_begun g s (Program r) (program_begins g m.state.regs.a0 r m.counts e).0 (with_counts (counted r m.counts) (with_status (request_cleared m.state.regs.c0) m)) h.fits (omega (arith, even g m h)))

  erases_idle : (r : Row) (m : Machine) → SoundMachine g (with_work Idle m) → finish g (erases g (unitwise g) r (with_work Idle m)) ≡ erases g (whole g) r (with_work Idle m)
  unfolding erases unitwise whole
  erases_idle r m h =
      requested_idle (erase_fate g m.state.regs.a0 r) (λ m. begins (Erase r) (with_counts (uncounted g r m.counts) m)) (λ m. over_store (done g (Erase r)) (with_counts (uncounted g r m.counts) m)) e_fail_set m
      (λ e. finish_begun g s (Erase r) (erase_inside g m.state.regs.a0 r e) (with_counts (uncounted g r m.counts) (with_status (request_cleared m.state.regs.c0) m)) h.fits (omega (arith, even g m h)))

  effect_idle : (i : Instruction) (m : Machine) → SoundMachine g (with_work Idle m) → finish g (effect g (unitwise g) i (with_work Idle m)) ≡ effect g (whole g) i (with_work Idle m)
  unfolding effect resets unitwise whole
  effect_idle PageRead m h = finish_begun g s (Read (row_of m.state.bus.transfer)) tt m h.fits (even g m h)
  effect_idle Execute m h = programs_idle (row_of m.state.bus.transfer) m h
  effect_idle BlockErase m h = erases_idle (row_of m.state.bus.transfer) m h
  effect_idle WriteEnable m h = refl
  effect_idle WriteDisable m h = refl
  effect_idle SetFeature m h = refl
  effect_idle Reset m h = finish_begun g s Restart tt (with_status (reset_status m.state.regs.c0) m) h.fits (omega arith)
  effect_idle Ignored m h = refl
  effect_idle GetFeature m h = refl
  effect_idle ReadId m h = refl
  effect_idle ReadCache m h = refl
  effect_idle Load m h = refl
  effect_idle LoadRandom m h = refl

  acted_idle : (m : Machine) → SoundMachine g (with_work Idle m) → finish g (acted g (unitwise g) (with_work Idle m)) ≡ acted g (whole g) (with_work Idle m)
  unfolding acted
  acted_idle m h = cond_two (λ (x y : Machine). finish g x ≡ y) (full m.state.bus.transfer) (λ e. effect_idle m.state.bus.transfer.instruction m h) (λ e. refl)

  -- power lost, the cache register keeps its length
  pub off_fits : (m : Machine) → Fits g m.store → Fits g (off g m).store
  unfolding off
  off_fits m f = fits_cache g (replicate (length m.store.cache) 0xFF) m.store (length-replicate (length m.store.cache) 0xFF ∙ f.cache_long) f

  idle_step : (m : Machine) → SoundMachine g (with_work Idle m) → (e : Record) → finish g (step g (unitwise g) (with_work Idle m) e) ≡ step g (whole g) (with_work Idle m) e
  unfolding step shifts deselects unitwise whole powered off
  idle_step m h Select = refl
  idle_step m h (Shift b) = refl
  idle_step m h Deselect =
      cond_two (λ (x y : Machine). finish g x ≡ y) m.state.bus.transfer.selected
      (λ e. finish_bus g ends (acted g (unitwise g) (with_work Idle m)) ∙ ap (over_bus ends) (acted_idle m h)) (λ e. refl)
  idle_step m h (Units n) = finish_idle g n m
  idle_step m h (Level v) = refl
  idle_step m h Power = finish_begun g s (Read (record { 0 = 0 })) tt (off g (with_work Idle m)) (off_fits m h.fits) refl

  -- each record that is allowed
  pub follows : (m : Machine) → SoundMachine g m → (e : Record) → T (allowed m.state e) → finish g (step g (unitwise g) m e) ≡ step g (whole g) (finish g m) e
  follows m h e a = go m.state.work m h a
    where
      go : (w : Work) (m : Machine) → SoundMachine g (with_work w m) → T (allowed (with_work w m).state e) → finish g (step g (unitwise g) (with_work w m) e) ≡ step g (whole g) (finish g (with_work w m)) e
      go Idle m h a = idle_step m h e
      go (Busy j i) m h a = busy_step g j i m h e a
