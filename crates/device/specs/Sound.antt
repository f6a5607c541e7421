-- Document 01, "Numbers of refusal": a sound state. (What each line says of its part of the state stands with the soundness.)
use Rattle.std.specs.Prelude.{Bool, ◌&&◌, ◌↔◌, ◌/◌, ◌≤◌, T}
use Rattle.part.specs.declared.Geometry.{Geometry}
use Rattle.registers.specs.Registers.{oip, a0_mask, b0_mask, d0_mask}
use Rattle.soundness.specs.Soundness.{Within, HighSound, InProgress, WorkSound, let_in, registers_sound, transfer_sound, work_sound, calm}
use Rattle.device.specs.declared.State.{State}

-- a sound state, in the paper's words
pub record SoundState (g : Geometry) (s : State) : Type 0 where
  pub a0_within : Within (a0_mask g) s.regs.a0
  pub b0_within : Within b0_mask s.regs.b0
  pub d0_within : Within d0_mask s.regs.d0
  pub c0_high : HighSound (s.regs.c0 / 16)
  pub oip_exactly : T (oip s.regs.c0) ↔ InProgress s.work
  pub count_small : s.bus.transfer.count ≤ 5
  pub column_small : s.bus.transfer.column.0 ≤ 4096
  pub sound_work : WorkSound g s.work
  pub lets_in : T (oip s.regs.c0) → T s.bus.transfer.selected → 1 ≤ s.bus.transfer.count → T (let_in s.bus.transfer)

-- the same as a test: registers within their masks, a small count and column, OIP with a sound operation, a transfer that was let in
unfoldable pub sound_state : Geometry → State → Bool
sound_state g s =
    registers_sound g s.regs && transfer_sound s.bus.transfer
    && work_sound g s.regs.c0 s.work && calm s.regs.c0 s.bus.transfer
