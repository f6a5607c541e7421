-- Demand 3 (T6), stated of what `model::run` returned and left in the lent memory.
use Rattle.std.specs.Prelude.{Bool, false, ◌&&◌, List, [], ◌∷◌, ◌↔◌, ◌≡◌, ℕ, ◌<◌, T, length, get_or, take, if◌then◌else◌}
use Rattle.part.specs.declared.Geometry.{Geometry}
use Rattle.buslog.specs.Log.{Bytes}
use Rattle.buslog.specs.Read.{parse}
use Rattle.buslog.specs.declared.Record.{Record}
use Rattle.buslog.specs.declared.Record.TheVariants.{Select, Shift, Deselect, Units, Level, Power}
use Rattle.device.specs.Machine.{Machine, machine}
use Rattle.device.specs.Work.{unitwise}
use Rattle.device.specs.Step.{powered}
use Rattle.device.specs.declared.State.{State}
use Rattle.refusals.specs.Refusals.{number_of}
use Rattle.model.specs.Runs.{Outcome, run_of, End, shown}
use Rattle.whole.specs.Whole.{whole}
use Rattle.whole.specs.Orderly.{idle, orderly, power_up_at, power_up?, starts, asked}

-- where the whole run begins: the power-up read is done before the first record
unfoldable pub settled : Geometry → Machine → Machine
settled g m = if power_up? m.state then powered g (whole g) m else m

-- what is handed to `run`: the part, the state, the log, the lent memory and the output
pub record Given : Type 0 where
  pub part : Geometry
  pub state : State
  pub log : List ℕ
  pub cells : List ℕ
  pub cache : List ℕ
  pub counts : List ℕ
  pub out : List ℕ

abbrev pub given : Geometry → State → List ℕ → List ℕ → List ℕ → List ℕ → List ℕ → Given
given g s log cells cache counts out = record { part = g; state = s; log = log; cells = cells; cache = cache; counts = counts; out = out }

abbrev pub machine_of : Given → Machine
machine_of i = machine i.state i.cells i.cache i.counts

-- what `run` returns and leaves, by its contract
abbrev pub end_of : Given → End
end_of i = shown (run_of i.part (unitwise i.part) (length i.out) i.log (machine_of i)) i.out

abbrev pub Ran : Given → End → Type 0
Ran i e = e ≡ end_of i

-- the whole run of the same log, with the same room for output
abbrev pub wholly : Given → Outcome
wholly i = run_of i.part (whole i.part) (length i.out) i.log (settled i.part (machine_of i))

-- the records that were done
abbrev pub records_done : Given → End → List Record
records_done i e = take e.answer.records (parse i.log).records

-- the suppositions: begun at power-up or idle, orderly, and ending idle
abbrev pub supposed : Given → End → Bool
supposed i e = starts i.state && orderly i.part (machine_of i) (records_done i e) && idle e.answer.state

-- the end: device state, cells, cache register and page counts are those of the whole run; so are the answer's numbers; and the output bytes
-- agree
-- at every shift that does not answer Get Feature of C0h
pub record SameEnd (i : Given) (e : End) : Type 0 where
  pub state : e.answer.state ≡ (wholly i).machine.state
  pub cells : e.cells ≡ (wholly i).machine.store.cells
  pub cache : e.cache ≡ (wholly i).machine.store.cache
  pub counts : e.counts ≡ (wholly i).machine.counts
  pub refusal : e.answer.refusal ≡ (wholly i).refusal
  pub records : e.answer.records ≡ (wholly i).records
  pub used : e.answer.used ≡ (wholly i).used
  pub written : e.answer.written ≡ length (wholly i).output
  pub output : (n : ℕ) → n < e.answer.written → get_or (asked i.part (unitwise i.part) (machine_of i) (records_done i e)) n false ≡ false
      → get_or e.out n 0 ≡ get_or (wholly i).output n 0

-- T6, for every input: with refusal 0 this is the tender's third demand; with another number it holds of the records done
abbrev pub Demand3 : Type 0
Demand3 = (i : Given) → Bytes i.log → (e : End) → Ran i e → T (supposed i e) → SameEnd i e

-- the same of a run itself: `post` is its contract's own `ensures`, of what was handed in and what came back
abbrev pub AboutRun : Type 0 → Given → End → Type 0
AboutRun post i e = post → Bytes i.log → T (supposed i e) → SameEnd i e

-- where `run` gave 0, the records done are all the records of the log
abbrev pub AllDone : Type 0
AllDone = (i : Given) → Bytes i.log → (e : End) → Ran i e → number_of e.answer.refusal ≡ 0 → records_done i e ≡ (parse i.log).records

-- the test of the start says what it should: the state is the power-up state, WP# at either level
abbrev pub PowerUpExactly : Type 0
PowerUpExactly = (s : State) → T (power_up? s) ↔ (s ≡ power_up_at s.bus.pins.wp)

-- ---- however the work falls

-- the records of a log that are not work
abbrev pub bus_only : List Record → List Record
bus_only [] = []
bus_only (Units n ∷ es) = bus_only es
bus_only (Select ∷ es) = Select ∷ bus_only es
bus_only (Shift b ∷ es) = Shift b ∷ bus_only es
bus_only (Deselect ∷ es) = Deselect ∷ bus_only es
bus_only (Level v ∷ es) = Level v ∷ bus_only es
bus_only (Power ∷ es) = Power ∷ bus_only es

-- the same but for the log
abbrev pub with_log : List ℕ → Given → Given
with_log l i = given i.part i.state l i.cells i.cache i.counts i.out

-- one end: of two runs, the state, the memory, and each output byte that is no status answer
pub record EndsAlike (i : Given) (e f : End) : Type 0 where
  pub state : e.answer.state ≡ f.answer.state
  pub cells : e.cells ≡ f.cells
  pub cache : e.cache ≡ f.cache
  pub counts : e.counts ≡ f.counts
  pub written : e.answer.written ≡ f.answer.written
  pub output : (n : ℕ) → n < e.answer.written → get_or (asked i.part (unitwise i.part) (machine_of i) (records_done i e)) n false ≡ false → get_or e.out n 0 ≡ get_or f.out n 0

-- two orderly logs that differ only in their work records, both ending idle, have one end
abbrev pub However : Type 0
However =
    (i : Given) (b : List ℕ) → Bytes i.log → Bytes b → (e f : End) → Ran i e → Ran (with_log b i) f
    → bus_only (records_done i e) ≡ bus_only (records_done (with_log b i) f)
    → T (supposed i e) → T (supposed (with_log b i) f) → EndsAlike i e f
