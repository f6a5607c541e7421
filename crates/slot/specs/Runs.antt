-- A run: the checks 17 and 18, then the records of the log as far as they can be read and their answers have room; and what every buffer
-- then holds.
use Rattle.std.specs.Prelude.{List, [], ◌∷◌, ◌++◌, ℕ, ◌+◌, ◌-◌, ltb, length, drop, if◌then◌else◌}
use Rattle.cardlog.specs.Log.{written}
use Rattle.cardlog.specs.Read.{Parsed, parse}
use Rattle.cardlog.specs.declared.Record.{Record}
use Rattle.card.specs.Card.{Card, step, run, takes, puts}
use Rattle.slot.specs.Turns.{refusal_of, checked_as}
use Rattle.slot.specs.declared.Answer.{Answer}
use Rattle.slot.specs.declared.Refusal.{Refusal}
use Rattle.slot.specs.declared.Refusal.TheVariants.{Done, BadCells, BadBits, BadKind, ShortBody, NoRoom}

-- ---- the output: the answers, in order

-- the output room that records take
unfoldable pub room_for : List Record → ℕ
room_for [] = 0
room_for (e ∷ es) = takes e + room_for es

-- the records before the first that finds no room
unfoldable pub fitting : ℕ → List Record → List Record
fitting room [] = []
fitting room (e ∷ es) = if ltb room (takes e) then [] else e ∷ fitting (room - takes e) es

-- the bytes that records put out, one after another
unfoldable pub bytes_out : Card → List Record → List ℕ
bytes_out c [] = []
bytes_out c (e ∷ es) = puts c e ++ bytes_out (step c e) es

-- ---- the run

pub record Outcome : Type 0 where
  pub refusal : Refusal
  pub card : Card
  pub records : ℕ
  pub used : ℕ
  pub output : List ℕ

-- exactly the records es done, and stopped with a refusal: the card after them, their number, their bytes in the log, what they put out.
-- "Nothing done" is this for no records; "stops before it" is this for the records before it.
abbrev pub did : Card → Refusal → List Record → Outcome
did c why es = record { refusal = why; card = run c es; records = length es; used = length (written es); output = bytes_out c es }

-- the records of a log that was read, as far as the room goes
unfoldable pub ran_of : ℕ → Parsed → Card → Outcome
ran_of room p c = did c (if ltb room (room_for p.records) then NoRoom else refusal_of p.why) (fitting room p.records)

-- what the checks let through
abbrev pub only_if : Refusal → Outcome → Outcome → Outcome
only_if Done o p = o
only_if BadCells o p = p
only_if BadBits o p = p
only_if BadKind o p = p
only_if ShortBody o p = p
only_if NoRoom o p = p

-- the checks, and then the log
unfoldable pub run_of : ℕ → List ℕ → Card → Outcome
run_of room log c = only_if (checked_as c) (ran_of room (parse log) c) (did c (checked_as c) [])

-- one run, and another behind it
abbrev pub and_then : Outcome → Outcome → Outcome
and_then o p = record { refusal = p.refusal; card = p.card; records = o.records + p.records; used = o.used + p.used; output = o.output ++ p.output }

-- ---- what the caller sees

-- the answer, and every byte of the lent memory
pub record End : Type 0 where
  pub answer : Answer
  pub cells : List ℕ
  pub bits : List ℕ
  pub out : List ℕ

-- an answer, with what the lent memory then holds
abbrev pub seen : Answer → List ℕ → List ℕ → List ℕ → End
seen a cells bits out = record { answer = a; cells = cells; bits = bits; out = out }

-- an outcome, with the output laid over the old bytes: those past the written ones are as they were
abbrev pub shown : Outcome → List ℕ → End
shown o out =
    seen
    (record { refusal = o.refusal; stage = o.card.stage; records = o.records; used = o.used; written = length o.output })
    o.card.cells
    o.card.bits
    (o.output ++ drop (length o.output) out)
