-- A run: the checks 1 to 5, then the records of the log as far as they can be read and their output has room; and what every buffer then
-- holds.
use Rattle.std.specs.Prelude.{List, [], ◌∷◌, ◌++◌, ℕ, ◌+◌, ◌-◌, ltb, length, drop, if◌then◌else◌}
use Rattle.part.specs.declared.Geometry.{Geometry}
use Rattle.buslog.specs.Log.{written}
use Rattle.buslog.specs.Read.{Parsed, parse}
use Rattle.buslog.specs.declared.Record.{Record}
use Rattle.device.specs.Machine.{Machine}
use Rattle.device.specs.Work.{Array}
use Rattle.device.specs.Step.{step, run}
use Rattle.refusals.specs.Refusals.{refusal_of, passed, checked_as}
use Rattle.refusals.specs.declared.Refusal.{Refusal}
use Rattle.refusals.specs.declared.Refusal.TheVariants.{NoRoom}
use Rattle.walk.specs.Turns.{takes, puts}
use Rattle.walk.specs.declared.Answer.{Answer}

-- ---- the output: one byte a shift, in order

-- the shifts among records
unfoldable pub shifts_in : List Record → ℕ
shifts_in [] = 0
shifts_in (e ∷ es) = takes e + shifts_in es

-- the records before the first that finds no room
unfoldable pub fitting : ℕ → List Record → List Record
fitting room [] = []
fitting room (e ∷ es) = if ltb room (takes e) then [] else e ∷ fitting (room - takes e) es

-- the bytes that records put out, one after another
unfoldable pub bytes_out : Geometry → Array → Machine → List Record → List ℕ
bytes_out g arr m [] = []
bytes_out g arr m (e ∷ es) = puts g m e ++ bytes_out g arr (step g arr m e) es

-- ---- the run

pub record Outcome : Type 0 where
  pub refusal : Refusal
  pub machine : Machine
  pub records : ℕ
  pub used : ℕ
  pub output : List ℕ

-- exactly the records es done, and stopped with a refusal: the machine after them, their number, their bytes in the log, what they put out.
-- "Nothing done" is this for no records; "stops before it" is this for the records before it.
abbrev pub did : Geometry → Array → Machine → Refusal → List Record → Outcome
did g arr m why es = record { refusal = why; machine = run g arr m es; records = length es; used = length (written es); output = bytes_out g arr m es }

-- the records of a log that was read, as far as the room goes
unfoldable pub ran_of : Geometry → Array → ℕ → Parsed → Machine → Outcome
ran_of g arr room p m = did g arr m (if ltb room (shifts_in p.records) then NoRoom else refusal_of p.why) (fitting room p.records)

-- the checks, and then the log
unfoldable pub run_of : Geometry → Array → ℕ → List ℕ → Machine → Outcome
run_of g arr room log m = if passed (checked_as g m) then ran_of g arr room (parse log) m else did g arr m (checked_as g m) []

-- one run, and another behind it
abbrev pub and_then : Outcome → Outcome → Outcome
and_then o p = record { refusal = p.refusal; machine = p.machine; records = o.records + p.records; used = o.used + p.used; output = o.output ++ p.output }

-- ---- what the caller sees

-- the answer, and every byte of the lent memory
pub record End : Type 0 where
  pub answer : Answer
  pub cells : List ℕ
  pub cache : List ℕ
  pub counts : List ℕ
  pub out : List ℕ

-- an answer, with what the lent memory then holds
abbrev pub seen : Answer → List ℕ → List ℕ → List ℕ → List ℕ → End
seen a cells cache counts out = record { answer = a; cells = cells; cache = cache; counts = counts; out = out }

-- an outcome, with the output laid over the old bytes: those past the written ones are as they were
abbrev pub shown : Outcome → List ℕ → End
shown o out =
    seen
    (record { refusal = o.refusal; state = o.machine.state; records = o.records; used = o.used; written = length o.output })
    o.machine.store.cells
    o.machine.store.cache
    o.machine.counts
    (o.output ++ drop (length o.output) out)
