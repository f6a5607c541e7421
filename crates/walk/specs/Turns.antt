-- One turn of a run: the output of a record, where a run stands, and the record at its place done.
use Rattle.std.specs.Prelude.{List, [], ◌∷◌, ℕ, ◌+◌, ◌-◌, ◌≤◌, ltb, length, if◌then◌else◌, Result, Ok, Err}
use Rattle.part.specs.declared.Geometry.{Geometry}
use Rattle.buslog.specs.Write.{over}
use Rattle.buslog.specs.declared.Record.{Record}
use Rattle.buslog.specs.declared.Record.TheVariants.{Select, Shift, Deselect, Units, Level, Power}
use Rattle.buslog.specs.declared.Why.{Why}
use Rattle.device.specs.Machine.{Machine}
use Rattle.device.specs.Work.{Array}
use Rattle.device.specs.Instructions.{answer}
use Rattle.device.specs.Step.{step}
use Rattle.device.specs.declared.State.{State}
use Rattle.refusals.specs.Refusals.{refusal_of}
use Rattle.refusals.specs.declared.Refusal.{Refusal}
use Rattle.refusals.specs.declared.Refusal.TheVariants.{NoRoom}
use Rattle.walk.specs.declared.Answer.{Answer}
use Rattle.walk.specs.declared.Walk.{Walk}

-- ---- the output: one byte a shift, in order

-- the output room that a record takes
abbrev pub takes : Record → ℕ
takes (Shift b) = 1
takes Select = 0
takes Deselect = 0
takes (Units n) = 0
takes (Level v) = 0
takes Power = 0

-- the byte that a record puts out, if it is a shift
abbrev pub puts : Geometry → Machine → Record → List ℕ
puts g m (Shift b) = answer g m.state m.store.cache ∷ []
puts g m Select = []
puts g m Deselect = []
puts g m (Units n) = []
puts g m (Level v) = []
puts g m Power = []

-- ---- where a run stands

-- before the first record
abbrev pub start_of : State → Walk
start_of s = record { state = s; at = 0; records = 0; written = 0 }

-- behind one record more, which ends at a place and took some room
abbrev pub behind : Walk → State → ℕ → ℕ → Walk
behind w s place room = record { state = s; at = place; records = w.records + 1; written = w.written + room }

-- the answer where a run stops
abbrev pub answered : Refusal → Walk → Answer
answered r w = record { refusal = r; state = w.state; records = w.records; used = w.at; written = w.written }

-- the answer where nothing was done
abbrev pub nothing : Refusal → State → Answer
nothing r s = answered r (start_of s)

-- a run stands within its log and its output, and each record done has taken a byte or more of the log
pub record Stands (w : Walk) (log out : List ℕ) : Type 0 where
  pub pace : w.records ≤ w.at
  pub inside : w.at ≤ length log
  pub roomy : w.written ≤ length out

-- ---- a turn

-- what it comes to, the machine then, and the output
pub record Turned : Type 0 where
  pub went : Result Walk Refusal
  pub machine : Machine
  pub out : List ℕ

-- the three together
abbrev pub turned : Result Walk Refusal → Machine → List ℕ → Turned
turned r m out = record { went = r; machine = m; out = out }

-- the state then: a run that goes off keeps its own
abbrev pub state_after : Walk → Result Walk Refusal → State
state_after w (Ok x) = x.state
state_after w (Err r) = w.state

-- 6 to 8 where there is no record; 9 where it has no room; else it is done, and its output stands behind the bytes written
unfoldable pub turn_of : Geometry → Array → Walk → Result (Record × ℕ) Why → Machine → List ℕ → Turned
turn_of g arr w (Err why) m out = turned (Err (refusal_of why)) m out
turn_of g arr w (Ok (e, place)) m out =
    let m₁ = step g arr m e in
    if ltb (length out - w.written) (takes e) then turned (Err NoRoom) m out
    else turned (Ok (behind w m₁.state place (takes e))) m₁ (over out w.written (puts g m e))
