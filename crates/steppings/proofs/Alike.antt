-- While CMP is 0 the steppings are alike: registers written, requests, work, one record, and so a run.
use mathlib.Core.Bool.{Bool, true, false, cond, not, ◌&&◌}
use mathlib.Core.List.{List, [], ◌∷◌, ◌++◌}
use mathlib.Core.Path.{◌≡◌, refl, ap, ap₂, ◌∙◌}
use Prim.Native.Nat.{ℕ, zero, suc, ◌+◌, ◌*◌, ◌/◌, ◌%◌, min}
use native.Mathlib.Omega.{arith}
use lib.Bits.{bit_and, and_step}
use lib.Dec.{T, eqb}
use borrow.Author.Tests.{eqb-false, not-true}
use Rattle.part.specs.Part.{sound_part, of_stepping}
use Rattle.part.specs.Protection.{cmp}
use Rattle.part.specs.declared.Geometry.{Geometry}
use Rattle.part.specs.declared.Row.{Row}
use Rattle.part.specs.declared.Stepping.TheVariants.{First, Second}
use Rattle.part.proofs.Choice.{T_true, and_l, and_r}
use Rattle.part.proofs.Complement.{without_cmp_alike}
use Rattle.buslog.specs.Read.{parse}
use Rattle.buslog.specs.declared.Record.{Record}
use Rattle.buslog.specs.declared.Record.TheVariants.{Select, Shift, Deselect, Units, Level, Power}
use Rattle.registers.specs.Registers.{locked, register_written}
use Rattle.registers.specs.declared.Pins.{Pins}
use Rattle.registers.specs.declared.Registers.{Registers}
use Rattle.transfer.specs.Transfer.{shifted_in, cached, full, ends, row_of}
use Rattle.codes.specs.declared.Instruction.{Instruction}
use Rattle.codes.specs.declared.Instruction.TheVariants.{Ignored, WriteEnable, WriteDisable, GetFeature, SetFeature, ReadId, PageRead, ReadCache, Load, LoadRandom, Execute, BlockErase, Reset}
use Rattle.array.specs.Jobs.{written}
use Rattle.array.specs.declared.Job.TheVariants.{Read, Program, Erase, Restart}
use Rattle.array.specs.declared.Work.{Work}
use Rattle.array.specs.declared.Work.TheVariants.{Idle, Busy}
use Rattle.requests.specs.Requests.{program_fate, erase_fate}
use Rattle.device.specs.Machine.{Machine, over_bus, with_state, regs_in}
use Rattle.device.specs.Work.{unit_of, units, unitwise}
use Rattle.device.specs.Instructions.{shifts, answer, programs, erases, resets, effect, acted, deselects}
use Rattle.device.specs.Step.{off, powered, step, run}
use Rattle.device.specs.Sound.{sound_state}
use Rattle.device.specs.declared.State.{State}
use Rattle.soundness.specs.Soundness.{work_sound}
use Rattle.refusals.specs.Refusals.{passed, check_of, checked_as}
use Rattle.refusals.specs.declared.Refusal.{Refusal}
use Rattle.walk.specs.Turns.{puts}
use Rattle.model.specs.Runs.{fitting, bytes_out, did, ran_of, run_of}
use Rattle.steppings.specs.Steppings.{cmp_free, SteppingsAlike, LogsAlike}

-- ---- the mask of A0h

-- both masks leave the same of a value without CMP
mask_same : (v : ℕ) → v / 2 % 2 ≡ 0 → bit_and v 0xBE ≡ bit_and v 0xBC
mask_same v e =
    let a : bit_and v 0xBE ≡ bit_and (v / 2) 0x5F * 2 + min (v % 2) 0 = and_step v 0xBE in
    let b : bit_and v 0xBC ≡ bit_and (v / 2) 0x5E * 2 + min (v % 2) 0 = and_step v 0xBC in
    let c : bit_and (v / 2) 0x5F ≡ bit_and (v / 2 / 2) 0x2F * 2 + min (v / 2 % 2) 1 = and_step (v / 2) 0x5F in
    let d : bit_and (v / 2) 0x5E ≡ bit_and (v / 2 / 2) 0x2F * 2 + min (v / 2 % 2) 0 = and_step (v / 2) 0x5E in
    omega (arith, a, b, c, d, e)

-- a value that BEh leaves without CMP came without it
without_cmp : (v : ℕ) → cmp (bit_and v 0xBE) ≡ false → v / 2 % 2 ≡ 0
without_cmp v e =
    let a : bit_and v 0xBE ≡ bit_and (v / 2) 0x5F * 2 + min (v % 2) 0 = and_step v 0xBE in
    let c : bit_and (v / 2) 0x5F ≡ bit_and (v / 2 / 2) 0x2F * 2 + min (v / 2 % 2) 1 = and_step (v / 2) 0x5F in
    let n : ¬ (bit_and v 0xBE / 2 % 2 ≡ 1) = eqb-false _ _ e in
    omega (arith, a, c, n)

module _ (g : Geometry) where
  -- the part of either stepping
  abbrev g₁ : Geometry
  g₁ = of_stepping First g

  abbrev g₂ : Geometry
  g₂ = of_stepping Second g

  -- a register written
  written_alike : (p : Pins) (a v : ℕ) (r : Registers) → cmp (register_written g₂ p a v r).a0 ≡ false → register_written g₂ p a v r ≡ register_written g₁ p a v r
  unfolding register_written
  written_alike p a v r e = ap (λ (x : ℕ). record { a0 = x; b0 = (register_written g p a v r).b0; c0 = r.c0; d0 = (register_written g p a v r).d0 }) (go (eqb a 0xA0 && not (locked r p)) e)
    where
      go : (b : Bool) → cmp (cond b (bit_and v 0xBE) r.a0) ≡ false → cond b (bit_and v 0xBE) r.a0 ≡ cond b (bit_and v 0xBC) r.a0
      go true h = mask_same v (without_cmp v h)
      go false h = refl

  -- ---- requests, and work

  program_alike : (r : Row) (m : Machine) → cmp m.state.regs.a0 ≡ false → programs g₂ (unitwise g₂) r m ≡ programs g₁ (unitwise g₁) r m
  unfolding programs program_fate unitwise
  program_alike r m e = rw (without_cmp_alike g m.state.regs.a0 (r.0 / g.pages) e)

  erase_alike : (r : Row) (m : Machine) → cmp m.state.regs.a0 ≡ false → erases g₂ (unitwise g₂) r m ≡ erases g₁ (unitwise g₁) r m
  unfolding erases erase_fate unitwise
  erase_alike r m e = rw (without_cmp_alike g m.state.regs.a0 (r.0 / g.pages) e)

  unit_alike : (w : Work) (m : Machine) → unit_of g₂ w m ≡ unit_of g₁ w m
  unfolding unit_of written
  unit_alike Idle m = refl
  unit_alike (Busy (Read r) i) m = refl
  unit_alike (Busy (Program r) i) m = refl
  unit_alike (Busy (Erase r) i) m = refl
  unit_alike (Busy Restart i) m = refl

  units_alike : (n : ℕ) (m : Machine) → units g₂ n m ≡ units g₁ n m
  unfolding units
  units_alike zero m = refl
  units_alike (suc n) m = ap (units g₂ n) (unit_alike m.state.work m) ∙ units_alike n (unit_of g₁ m.state.work m)

  -- ---- one record

  effect_alike : (i : Instruction) (m : Machine) → cmp m.state.regs.a0 ≡ false → cmp (effect g₂ (unitwise g₂) i m).state.regs.a0 ≡ false
      → effect g₂ (unitwise g₂) i m ≡ effect g₁ (unitwise g₁) i m
  unfolding effect unitwise resets
  effect_alike WriteEnable m e h = refl
  effect_alike WriteDisable m e h = refl
  effect_alike SetFeature m e h =
      let s = m.state in
      let t = s.bus.transfer in
      ap (λ (r : Registers). with_state (regs_in r s) m) (written_alike s.bus.pins t.first t.second s.regs h)
  effect_alike PageRead m e h = refl
  effect_alike Execute m e h = program_alike (row_of m.state.bus.transfer) m e
  effect_alike BlockErase m e h = erase_alike (row_of m.state.bus.transfer) m e
  effect_alike Reset m e h = refl
  effect_alike Ignored m e h = refl
  effect_alike GetFeature m e h = refl
  effect_alike ReadId m e h = refl
  effect_alike ReadCache m e h = refl
  effect_alike Load m e h = refl
  effect_alike LoadRandom m e h = refl

  acted_alike : (m : Machine) → cmp m.state.regs.a0 ≡ false → cmp (acted g₂ (unitwise g₂) m).state.regs.a0 ≡ false → acted g₂ (unitwise g₂) m ≡ acted g₁ (unitwise g₁) m
  unfolding acted
  acted_alike m e h = go (full m.state.bus.transfer) h
    where
      i : Instruction
      i = m.state.bus.transfer.instruction

      go : (b : Bool) → cmp (cond b (effect g₂ (unitwise g₂) i m) m).state.regs.a0 ≡ false → cond b (effect g₂ (unitwise g₂) i m) m ≡ cond b (effect g₁ (unitwise g₁) i m) m
      go true h = effect_alike i m e h
      go false h = refl

  deselect_alike : (m : Machine) → cmp m.state.regs.a0 ≡ false → cmp (deselects g₂ (unitwise g₂) m).state.regs.a0 ≡ false
      → deselects g₂ (unitwise g₂) m ≡ deselects g₁ (unitwise g₁) m
  unfolding deselects
  deselect_alike m e h = go m.state.bus.transfer.selected h
    where
      go : (b : Bool) → cmp (cond b (over_bus ends (acted g₂ (unitwise g₂) m)) m).state.regs.a0 ≡ false
          → cond b (over_bus ends (acted g₂ (unitwise g₂) m)) m ≡ cond b (over_bus ends (acted g₁ (unitwise g₁) m)) m
      go true h = ap (over_bus ends) (acted_alike m e h)
      go false h = refl

  step_alike : (m : Machine) (e : Record) → cmp m.state.regs.a0 ≡ false → cmp (step g₂ (unitwise g₂) m e).state.regs.a0 ≡ false
      → step g₂ (unitwise g₂) m e ≡ step g₁ (unitwise g₁) m e
  unfolding step unitwise shifts shifted_in cached powered off
  step_alike m Select e h = refl
  step_alike m (Shift b) e h = refl
  step_alike m Deselect e h = deselect_alike m e h
  step_alike m (Units n) e h = units_alike n m
  step_alike m (Level v) e h = refl
  step_alike m Power e h = refl

  -- ---- records one after another

  -- CMP is 0 now
  free_now : (m : Machine) (es : List Record) → T (cmp_free g m es) → cmp m.state.regs.a0 ≡ false
  unfolding cmp_free
  free_now m [] t = not-true (cmp m.state.regs.a0) (T_true _ t)
  free_now m (e ∷ es) t = not-true (cmp m.state.regs.a0) (T_true _ (and_l (not (cmp m.state.regs.a0)) (cmp_free g (step g₂ (unitwise g₂) m e) es) t))

  -- and after the next record
  free_then : (m : Machine) (e : Record) (es : List Record) → T (cmp_free g m (e ∷ es)) → T (cmp_free g (step g₂ (unitwise g₂) m e) es)
  unfolding cmp_free
  free_then m e es t = and_r (not (cmp m.state.regs.a0)) (cmp_free g (step g₂ (unitwise g₂) m e) es) t

  next_alike : (m : Machine) (e : Record) (es : List Record) → T (cmp_free g m (e ∷ es)) → step g₂ (unitwise g₂) m e ≡ step g₁ (unitwise g₁) m e
  next_alike m e es t = step_alike m e (free_now m (e ∷ es) t) (free_now (step g₂ (unitwise g₂) m e) es (free_then m e es t))

  run_alike : (m : Machine) (es : List Record) → T (cmp_free g m es) → run g₂ (unitwise g₂) m es ≡ run g₁ (unitwise g₁) m es
  unfolding run
  run_alike m [] t = refl
  run_alike m (e ∷ es) t =
      run_alike (step g₂ (unitwise g₂) m e) es (free_then m e es t)
      ∙ ap (λ (x : Machine). run g₁ (unitwise g₁) x es) (next_alike m e es t)

  puts_alike : (m : Machine) (e : Record) → puts g₂ m e ≡ puts g₁ m e
  unfolding answer
  puts_alike m Select = refl
  puts_alike m (Shift b) = refl
  puts_alike m Deselect = refl
  puts_alike m (Units n) = refl
  puts_alike m (Level v) = refl
  puts_alike m Power = refl

  bytes_alike : (m : Machine) (es : List Record) → T (cmp_free g m es) → bytes_out g₂ (unitwise g₂) m es ≡ bytes_out g₁ (unitwise g₁) m es
  unfolding bytes_out
  bytes_alike m [] t = refl
  bytes_alike m (e ∷ es) t =
      ap₂ (λ (x y : List ℕ). x ++ y) (puts_alike m e)
      (bytes_alike (step g₂ (unitwise g₂) m e) es (free_then m e es t) ∙ ap (λ (x : Machine). bytes_out g₁ (unitwise g₁) x es) (next_alike m e es t))

  did_alike : (m : Machine) (why : Refusal) (es : List Record) → T (cmp_free g m es) → did g₂ (unitwise g₂) m why es ≡ did g₁ (unitwise g₁) m why es
  did_alike m why es t = rw (run_alike m es t, bytes_alike m es t)

  -- ---- the checks

  work_alike : (c : ℕ) (w : Work) → work_sound g₂ c w ≡ work_sound g₁ c w
  work_alike c Idle = refl
  work_alike c (Busy (Read r) i) = refl
  work_alike c (Busy (Program r) i) = refl
  work_alike c (Busy (Erase r) i) = refl
  work_alike c (Busy Restart i) = refl

  state_alike : (s : State) → cmp s.regs.a0 ≡ false → sound_state g₂ s ≡ sound_state g₁ s
  unfolding sound_state
  state_alike s e = rw (mask_same s.regs.a0 (clear s.regs.a0 e), work_alike s.regs.c0 s.work)
    where
      clear : (a : ℕ) → cmp a ≡ false → a / 2 % 2 ≡ 0
      clear a h = let n : ¬ (a / 2 % 2 ≡ 1) = eqb-false _ _ h in omega (arith, n)

  check_alike : (m : Machine) → cmp m.state.regs.a0 ≡ false → checked_as g₂ m ≡ checked_as g₁ m
  unfolding sound_part check_of
  check_alike m e = rw (state_alike m.state e)

pub steppings_alike : SteppingsAlike
steppings_alike g m es t = run_alike g m es t

pub logs_alike : LogsAlike
unfolding run_of ran_of run bytes_out
logs_alike g room log m t =
    rw (check_alike g m (free_now g m (fitting room (parse log).records) t)) (go (passed (checked_as (of_stepping First g) m)))
  where
    es : List Record
    es = fitting room (parse log).records

    go : (b : Bool)
        → cond b (ran_of (of_stepping Second g) (unitwise (of_stepping Second g)) room (parse log) m) (did (of_stepping Second g) (unitwise (of_stepping Second g)) m (checked_as (of_stepping First g) m) [])
        ≡ cond b (ran_of (of_stepping First g) (unitwise (of_stepping First g)) room (parse log) m) (did (of_stepping First g) (unitwise (of_stepping First g)) m (checked_as (of_stepping First g) m) [])
    go true = did_alike g m _ es t
    go false = refl
