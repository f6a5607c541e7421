-- What is promised beside a run: the next byte is the one that comes, the units left say when the array is ready, work adds up, and blank
-- memory is ready for a run.
use Rattle.std.specs.Prelude.{Ok, Err, true, false, not, List, [], ◌∷◌, ◌≡◌, ℕ, suc, ◌+◌, ◌-◌, ◌*◌, eqb, ltb, length, if◌then◌else◌}
use Rattle.part.specs.Part.{page, rows, sound_part}
use Rattle.part.specs.declared.Geometry.{Geometry}
use Rattle.buslog.specs.Log.{bytes_of, written}
use Rattle.buslog.specs.declared.Record.{Record}
use Rattle.buslog.specs.declared.Record.TheVariants.{Shift, Units}
use Rattle.registers.specs.Registers.{oip}
use Rattle.device.specs.Machine.{Machine, machine}
use Rattle.device.specs.Work.{Array, units, unitwise}
use Rattle.device.specs.Step.{power_up}
use Rattle.device.specs.Sound.{sound_state}
use Rattle.device.specs.declared.State.{State}
use Rattle.refusals.specs.Refusals.{number_of, line_of, passed, checked_as}
use Rattle.refusals.specs.declared.Refusal.{Refusal}
use Rattle.refusals.specs.declared.Refusal.TheVariants.{Done}
use Rattle.model.specs.Runs.{run_of}
use Rattle.beside.specs.Beside.{peek_of, units_left, work_of, blank_of}

-- ---- the next byte

-- of 1 to 5 it can be refused with 1, 3 and 5, in this order
abbrev pub PeekExactly : Type 0
PeekExactly =
    (g : Geometry) (s : State) (cache : List ℕ) →
    number_of (line_of (peek_of g s cache))
    ≡ (if not (sound_part g) then 1
    else if not (eqb (length cache) (page g)) then 3
    else if not (sound_state g s) then 5
    else 0)

-- what is refused is never refused with line 0: 0 is told where a byte is, and nowhere else
abbrev pub PeekNeverDone : Type 0
PeekNeverDone = (g : Geometry) (s : State) (cache : List ℕ) (r : Refusal) → peek_of g s cache ≡ Err r → passed r ≡ false

-- where a run is not refused a byte is told; whatever byte is shifted in next, the byte that the run then puts out is that one
abbrev pub NextByte : Type 0
NextByte =
    (g : Geometry) (arr : Array) (m : Machine) (b room : ℕ) → passed (checked_as g m) ≡ true →
    (x : ℕ) × (peek_of g m.state m.store.cache ≡ Ok x) × ((run_of g arr (suc room) (bytes_of (Shift b)) m).output ≡ x ∷ [])

-- ---- the units left

-- OIP is 1 exactly while units are left
abbrev pub BusyTold : Type 0
BusyTold = (g : Geometry) (s : State) → sound_part g ≡ true → sound_state g s ≡ true → oip s.regs.c0 ≡ ltb 0 (units_left g s)

-- n units of work leave n fewer, down to none
abbrev pub LeftAfter : Type 0
LeftAfter = (g : Geometry) (m : Machine) (n : ℕ) → passed (checked_as g m) ≡ true → units_left g (units g n m).state ≡ units_left g m.state - n

-- ---- work

-- work records, one after another
unfoldable pub works_of : List ℕ → List Record
works_of [] = []
works_of (n ∷ ns) = Units n ∷ works_of ns

-- their units together
unfoldable pub together : List ℕ → ℕ
together [] = 0
together (n ∷ ns) = n + together ns

-- however the units are cut into work records, their run and one call for all of them refuse alike and end alike
abbrev pub WorkAdds : Type 0
WorkAdds =
    (g : Geometry) (m : Machine) (room : ℕ) (ns : List ℕ) →
    let o = run_of g (unitwise g) room (written (works_of ns)) m in
    let p = work_of g (unitwise g) (together ns) m in
    (o.refusal ≡ p.refusal) × (o.machine ≡ p.machine) × (o.output ≡ p.output)

-- and one work record is the same in all that it answers
abbrev pub WorkOne : Type 0
WorkOne = (g : Geometry) (m : Machine) (room n : ℕ) → run_of g (unitwise g) room (bytes_of (Units n)) m ≡ work_of g (unitwise g) n m

-- ---- blank memory

-- of 1 to 5 it can be refused with 1 to 4, in this order
abbrev pub BlankExactly : Type 0
BlankExactly =
    (g : Geometry) (cells cache counts : List ℕ) →
    number_of (line_of (blank_of g cells cache counts).answer)
    ≡ (if not (sound_part g) then 1
    else if not (eqb (length cells) (rows g * page g)) then 2
    else if not (eqb (length cache) (page g)) then 3
    else if not (eqb (length counts) (rows g)) then 4
    else 0)

-- never with line 0: 0 is told where the memory is blank, and nowhere else
abbrev pub BlankNeverDone : Type 0
BlankNeverDone = (g : Geometry) (cells cache counts : List ℕ) (r : Refusal) → (blank_of g cells cache counts).answer ≡ Err r → passed r ≡ false

-- and a run from power-up on it is not refused
abbrev pub BlankReady : Type 0
BlankReady =
    (g : Geometry) (cells cache counts : List ℕ) → passed (line_of (blank_of g cells cache counts).answer) ≡ true →
    let b = blank_of g cells cache counts in
    checked_as g (machine power_up b.cells b.cache b.counts) ≡ Done
