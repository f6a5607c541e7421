-- Document 02, item 2: a reset takes time. What comes after one, for every part and every machine; and cases on the bench part, one table.
use Rattle.std.specs.Prelude.{false, List, [], ◌∷◌, ◌++◌, ◌≡◌, ℕ, ltb, replicate, if◌then◌else◌}
use Rattle.part.specs.declared.Geometry.{Geometry}
use Rattle.buslog.specs.declared.Record.{Record}
use Rattle.buslog.specs.declared.Record.TheVariants.{Select, Shift, Deselect, Units}
use Rattle.registers.specs.Registers.{oip_set, reset_status}
use Rattle.array.specs.declared.Job.TheVariants.{Restart}
use Rattle.array.specs.declared.Work.TheVariants.{Busy}
use Rattle.transfer.specs.Transfer.{ends}
use Rattle.device.specs.Machine.{Machine, with_state, with_status, with_work, over_bus}
use Rattle.device.specs.Work.{units, unitwise}
use Rattle.device.specs.Instructions.{reset_state, resets}
use Rattle.device.specs.Step.{run}
use Rattle.cases.specs.Cases.{Case, ◌·◌⇒◌, after, blank, erase_five, idle_stale, idle_with, send, status, telling_from, told, wrong}

-- ---- for every part and every machine

-- a reset over: WEL alone is left of the status register, nothing is in progress; all memory is as it was
abbrev pub after_reset : Machine → Machine
after_reset m = with_state (reset_state m.state) m

-- a reset with i units done: the same, with OIP 1
abbrev pub in_reset : ℕ → Machine → Machine
in_reset i m = with_work (Busy Restart i) (with_status (oip_set (reset_status m.state.regs.c0)) (after_reset m))

-- with n units of work after it took effect, busy or idle before: busy for exactly 8 units; no cell, cache byte or count is touched
abbrev pub ResetTakes : Type 0
ResetTakes = (g : Geometry) (m : Machine) (n : ℕ) → units g n (resets (unitwise g) m) ≡ (if ltb n 8 then in_reset n m else after_reset m)

-- one that takes effect during those units, or after them, starts the 8 again
abbrev pub ResetAgain : Type 0
ResetAgain = (g : Geometry) (m : Machine) (n : ℕ) → resets (unitwise g) (units g n (resets (unitwise g) m)) ≡ resets (unitwise g) m

-- FFh, a transfer of its own
abbrev pub reset : List Record
reset = send (0xFF ∷ [])

-- sent to a chip that is not selected, it takes effect on every machine; and then n units of work
abbrev pub ResetSent : Type 0
ResetSent = (g : Geometry) (m : Machine) (n : ℕ) → m.state.bus.transfer.selected ≡ false
    → run g (unitwise g) m (reset ++ Units n ∷ []) ≡ (if ltb n 8 then in_reset n (over_bus ends m) else after_reset (over_bus ends m))

-- ---- cases

-- the status after some records on an idle part, its own status as given
abbrev pub leaves : ℕ → List Record → List ℕ
leaves c es = status (after (idle_with 0 c blank) es)

-- 1: busy for 8 units, from idle too. 2: WEL stays, both fail bits go at once. 3: a reset within a reset after 5 units is busy for 8 more.
-- 4: 06h first shifted during the 8 units is ignored, even if they end before chip select rises; after them it is heard. 5: document 01's
-- case 13 as before, with the reset's units done too. 6: a read cut after 3 units leaves the rest of the cache register, and so do the
-- reset's units
unfoldable pub reset_cases : List Case
reset_cases =
    1 · (leaves 0 reset ++ leaves 0 (reset ++ Units 7 ∷ []) ++ leaves 0 (reset ++ Units 8 ∷ [])) ⇒ (1 ∷ 1 ∷ 0 ∷ [])
    ∷ 2 · (leaves 0x0E reset ++ leaves 0x0E (reset ++ Units 8 ∷ [])) ⇒ (3 ∷ 2 ∷ [])
    ∷ 3 · (leaves 0 (reset ++ Units 5 ∷ reset ++ Units 7 ∷ []) ++ leaves 0 (reset ++ Units 5 ∷ reset ++ Units 8 ∷ [])) ⇒ (1 ∷ 0 ∷ [])
    ∷ 4 · (leaves 0 (reset ++ Units 7 ∷ send (0x06 ∷ []) ++ Units 1 ∷ []) ++ leaves 0 (reset ++ Select ∷ Shift 0x06 ∷ Units 8 ∷ Deselect ∷ [])
    ++ leaves 0 (reset ++ Units 8 ∷ send (0x06 ∷ [])))
    ⇒ (0 ∷ 0 ∷ 2 ∷ [])
    ∷ 5 · (after (idle_with 0 0 told) (erase_five ++ Units 30 ∷ reset ++ Units 8 ∷ [])).store.cells ⇒ (telling_from 0 80 ++ replicate 30 255 ++ telling_from 110 530)
    ∷ 6 · (after (idle_stale told) (send (0x13 ∷ 0 ∷ 0 ∷ 31 ∷ []) ++ Units 3 ∷ reset ++ Units 8 ∷ [])).store.cache ⇒ (telling_from 620 3 ++ replicate 17 0x77)
    ∷ []

-- each is seen as it says
abbrev pub AllResetCases : Type 0
AllResetCases = wrong reset_cases ≡ []
