-- All of a sound machine but its bus, over the fields that it speaks of; the units keep it.
use mathlib.Core.List.{List}
use mathlib.Core.Path.{◌≡◌, refl, sym, subst}
use Prim.Native.Nat.{ℕ, zero, suc, ◌/◌, ◌%◌, ◌<◌}
use native.Mathlib.Nat.{mul-le-mul_right}
use native.Mathlib.Omega.{arith}
use lib.Dec.{ltb}
use lib.ListN.{length}
use borrow.Author.Tests.{ltb-true}
use Rattle.part.specs.Part.{page, rows, Sound}
use Rattle.part.specs.declared.Geometry.{Geometry}
use Rattle.part.proofs.Choice.{cond_keep}
use Rattle.registers.specs.Registers.{oip_set, oip_cleared}
use Rattle.registers.specs.declared.Registers.{Registers}
use Rattle.array.specs.Jobs.{Store, length_of, written, InArray, Going, Fits}
use Rattle.array.specs.declared.Job.{Job}
use Rattle.array.specs.declared.Job.TheVariants.{Read, Program, Erase, Restart}
use Rattle.array.specs.declared.Work.{Work}
use Rattle.array.specs.declared.Work.TheVariants.{Idle, Busy}
use Rattle.soundness.specs.Soundness.{HighSound}
use Rattle.device.specs.Machine.{Machine, status_in, with_status, with_work, over_store}
use Rattle.device.specs.Work.{begun, begins, ended, unit_of, units}
use Rattle.kept.proofs.Masks.{InMasks, masks_as}
use Rattle.kept.proofs.Lengths.{written_fits}

-- the work and bit 0 of the status register: OIP is 1 exactly while an operation is in progress, and that is sound
abbrev pub Ready : Geometry → ℕ → Work → Type 0
Ready g o Idle = o ≡ 0
Ready g o (Busy j i) = (o ≡ 1) × Going g j i

pub record SaneOf (g : Geometry) (r : Registers) (w : Work) (s : Store) (l : List ℕ) : Type 0 where
  pub masks : InMasks g r
  pub high : HighSound (r.c0 / 16)
  pub ready : Ready g (r.c0 % 2) w
  pub fits : Fits g s
  pub counts : length l ≡ rows g

-- made in one place
pub sane_made : (g : Geometry) (r : Registers) (w : Work) (s : Store) (l : List ℕ) → InMasks g r → HighSound (r.c0 / 16) → Ready g (r.c0 % 2) w → Fits g s → length l ≡ rows g → SaneOf g r w s l
sane_made g r w s l k u e f c = record { masks = k; high = u; ready = e; fits = f; counts = c }

abbrev pub Sane : Geometry → Machine → Type 0
Sane g m = SaneOf g m.state.regs m.state.work m.store m.counts

-- ---- registers and work changed, or memory: the rest is as it was

module _ (g : Geometry) {r : Registers} {w : Work} {s : Store} {l : List ℕ} where
  pub over_state : (r' : Registers) (w' : Work) → InMasks g r' → HighSound (r'.c0 / 16) → Ready g (r'.c0 % 2) w' → SaneOf g r w s l → SaneOf g r' w' s l
  over_state r' w' k u e h = sane_made g r' w' s l k u e h.fits h.counts

  pub over_memory : (s' : Store) (l' : List ℕ) → Fits g s' → length l' ≡ rows g → SaneOf g r w s l → SaneOf g r w s' l'
  over_memory s' l' f e h = sane_made g r w s' l' h.masks h.high h.ready f e

-- ---- the status register changed

ready_as : (g : Geometry) (w : Work) (o o' : ℕ) → o' ≡ o → Ready g o w → Ready g o' w
ready_as g Idle o o' e h = omega arith
ready_as g (Busy j i) o o' e h = (omega (arith, h.0), h.1)

-- its high bits are as they were; and a register without them is sound
high_kept : (c c' : ℕ) → c' / 16 ≡ c / 16 → HighSound (c / 16) → HighSound (c' / 16)
high_kept c c' e h = subst HighSound (sym e) h

pub none_high : HighSound 0
none_high = refl

-- high bits and OIP are as they were
pub status_sane : (g : Geometry) (c : ℕ) (m : Machine) → c / 16 ≡ m.state.regs.c0 / 16 → c % 2 ≡ m.state.regs.c0 % 2 → Sane g m → Sane g (with_status c m)
status_sane g c m u e h =
    let r = m.state.regs in
    over_state g (status_in c m.state).regs m.state.work (masks_as g h.masks) (high_kept r.c0 c u h.high) (ready_as g m.state.work (r.c0 % 2) (c % 2) e h.ready) h

-- OIP is 0, and nothing is in progress: the high bits as they may be
pub idle_sane : (g : Geometry) (c : ℕ) (m : Machine) → HighSound (c / 16) → c % 2 ≡ 0 → Sane g m → Sane g (with_work Idle (with_status c m))
idle_sane g c m u e h = over_state g (status_in c m.state).regs Idle (masks_as g h.masks) u e h

-- ---- an operation begins

-- every operation of a sound part has a unit
has_unit : (g : Geometry) → Sound g → (j : Job) → 0 < length_of g j
has_unit g s (Read r) = omega (arith, s.some_bytes)
has_unit g s (Program r) = omega (arith, s.some_bytes)
has_unit g s (Erase r) = omega (arith, s.some_bytes, mul-le-mul_right (page g) s.some_pages)
has_unit g s Restart = omega arith

pub begun_sane : (g : Geometry) → Sound g → (j : Job) (m : Machine) → InArray g j → Sane g m → Sane g (begins j m)
begun_sane g s j m a h =
    let c = m.state.regs.c0 in
    over_state g (begun j m.state).regs (Busy j 0) (masks_as g h.masks) (high_kept c (oip_set c) (omega arith) h.high) (omega arith, record { unit_left = has_unit g s j; in_array = a }) h

-- ---- units

-- an operation's end
ended_sane : (g : Geometry) (j : Job) (m : Machine) → Sane g m → Sane g (ended g j m)
ended_sane g j m h = let c = m.state.regs.c0 in idle_sane g (oip_cleared c) m (high_kept c (oip_cleared c) (omega arith) h.high) (omega arith) h

unit_sane : (g : Geometry) (m : Machine) → Sane g m → Sane g (unit_of g m.state.work m)
unfolding unit_of
unit_sane g m h = go m.state.work m h
  where
    go : (w : Work) (m : Machine) → Sane g (with_work w m) → Sane g (unit_of g w (with_work w m))
    go Idle m h = h
    go (Busy j i) m h =
        let f : Fits g (written g j i m.store) = written_fits g j i m.store h.fits in
        let m₁ = over_store (written g j i) (with_work (Busy j i) m) in
        let h₁ : Sane g m₁ = over_memory g (written g j i m.store) m.counts f h.counts h in
        cond_keep (Sane g) (ltb (suc i) (length_of g j))
        (λ e. over_state g m.state.regs (Busy j (suc i)) h.masks h.high (h.ready.0, record { unit_left = ltb-true (suc i) (length_of g j) e; in_array = h.ready.1.in_array }) h₁)
        (λ e. ended_sane g j m₁ h₁)

pub units_sane : (g : Geometry) (n : ℕ) (m : Machine) → Sane g m → Sane g (units g n m)
unfolding units
units_sane g zero m h = h
units_sane g (suc n) m h = units_sane g n (unit_of g m.state.work m) (unit_sane g m h)
