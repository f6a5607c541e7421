-- The checks of a run, and one turn of it: where a run stands, and the record at its place done.
use Rattle.std.specs.Prelude.{not, List, ◌≡◌, ℕ, ◌+◌, ◌-◌, ◌≤◌, eqb, ltb, length, Result, Ok, Err, if◌then◌else◌}
use Rattle.buslog.specs.Write.{over}
use Rattle.cardlog.specs.declared.Record.{Record}
use Rattle.cardlog.specs.declared.Why.{Why}
use Rattle.cardlog.specs.declared.Why.TheVariants as why
use Rattle.card.specs.Card.{Card, step, takes, puts}
use Rattle.card.specs.declared.Stage.{Stage}
use Rattle.slot.specs.declared.Answer.{Answer}
use Rattle.slot.specs.declared.Refusal.{Refusal}
use Rattle.slot.specs.declared.Refusal.TheVariants.{Done, BadCells, BadBits, BadKind, ShortBody, NoRoom}
use Rattle.slot.specs.declared.Walk.{Walk}

-- the numbers of refusal
abbrev pub number_of : Refusal → ℕ
number_of Done = 0
number_of BadCells = 17
number_of BadBits = 18
number_of BadKind = 6
number_of ShortBody = 7
number_of NoRoom = 9

-- the refusal for each reason to stop
abbrev pub refusal_of : Why → Refusal
refusal_of why.End = Done
refusal_of why.BadKind = BadKind
refusal_of why.ShortBody = ShortBody

-- ---- the checks

-- 17, cells not 1,024 bytes; 18, protect bits not 128 bytes, after 17
unfoldable pub check_of : ℕ → ℕ → Refusal
check_of cells bits = if not (eqb cells 1024) then BadCells else if not (eqb bits 128) then BadBits else Done

abbrev pub checked_as : Card → Refusal
checked_as c = check_of (length c.cells) (length c.bits)

-- they hold
pub record Fits (c : Card) : Type 0 where
  pub cells : length c.cells ≡ 1024
  pub bits : length c.bits ≡ 128

-- ---- where a run stands

-- before the first record
abbrev pub start_of : Stage → Walk
start_of s = record { stage = s; at = 0; records = 0; written = 0 }

-- behind one record more, which ends at a place and took some room
abbrev pub behind : Walk → Stage → ℕ → ℕ → Walk
behind w s place room = record { stage = s; at = place; records = w.records + 1; written = w.written + room }

-- the answer where a run stops
abbrev pub answered : Refusal → Walk → Answer
answered r w = record { refusal = r; stage = w.stage; records = w.records; used = w.at; written = w.written }

-- a run stands within its log and its output, and each record done has taken a byte or more of the log
pub record Stands (w : Walk) (log out : List ℕ) : Type 0 where
  pub pace : w.records ≤ w.at
  pub inside : w.at ≤ length log
  pub roomy : w.written ≤ length out

-- ---- a turn

-- what it comes to, the card then, and the output
pub record Turned : Type 0 where
  pub went : Result Walk Refusal
  pub card : Card
  pub out : List ℕ

-- the three together
abbrev pub turned : Result Walk Refusal → Card → List ℕ → Turned
turned r c out = record { went = r; card = c; out = out }

-- the stage then: a run that goes off keeps its own
abbrev pub stage_then : Walk → Result Walk Refusal → Stage
stage_then w (Ok x) = x.stage
stage_then w (Err r) = w.stage

-- 6 and 7 where there is no record; 9 where its answer has no room; else it is done, and its answer stands behind the bytes written
unfoldable pub turn_of : Walk → Result (Record × ℕ) Why → Card → List ℕ → Turned
turn_of w (Err y) c out = turned (Err (refusal_of y)) c out
turn_of w (Ok (e, place)) c out =
    let c₁ = step c e in
    if ltb (length out - w.written) (takes e) then turned (Err NoRoom) c out
    else turned (Ok (behind w c₁.stage place (takes e))) c₁ (over out w.written (puts c e))
