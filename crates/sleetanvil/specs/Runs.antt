-- A run, one event, bytes exchanged, work, and a run judged, with the part and the state in plain numbers.
use Rattle.std.specs.Prelude.{Bool, false, List, [], ℕ, length, Option, Some, None}
use Rattle.device.specs.declared.State.{State}
use Rattle.part.specs.declared.Geometry.{Geometry}
use Rattle.buslog.specs.Log.{written}
use Rattle.buslog.specs.declared.Record.{Record}
use Rattle.device.specs.Machine.{machine}
use Rattle.device.specs.Work.{unitwise}
use Rattle.part_numbers.specs.Numbers.{part_of}
use Rattle.face.specs.Face.{state_of, face_of, no_state}
use Rattle.part_numbers.specs.declared.CGeometry.{CGeometry}
use Rattle.face.specs.declared.CState.{CState}
use Rattle.face.specs.declared.CAnswer.{CAnswer}
use Rattle.face.specs.declared.CJudged.{CJudged}
use Rattle.refusals.specs.Refusals.{number_of, check_of, line_of}
use Rattle.model.specs.Runs.{End, run_of, shown}
use Rattle.walk.specs.declared.Answer.{Answer}
use Rattle.beside.specs.Beside.{work_of}
use Rattle.whole.specs.Demand.{given}
use Rattle.orderly.specs.Judge.{Judgement, judgement_of}

-- ---- what the caller sees

-- the answer, and every byte of the lent memory
pub record CEnd : Type 0 where
  pub answer : CAnswer
  pub cells : List ℕ
  pub cache : List ℕ
  pub counts : List ℕ
  pub out : List ℕ

-- the two together
abbrev pub face_seen : CAnswer → List ℕ → List ℕ → List ℕ → List ℕ → CEnd
face_seen a cells cache counts out = record { answer = a; cells = cells; cache = cache; counts = counts; out = out }

-- the model's answer in numbers, with the numbers of a state
abbrev pub answer_of : CState → Answer → CAnswer
answer_of c a = record { state = c; records = a.records; used = a.used; written = a.written; refusal = number_of a.refusal }

-- the same of all that a run of the model leaves
abbrev pub shown_as : CState → End → CEnd
shown_as c e = face_seen (answer_of c e.answer) e.cells e.cache e.counts e.out

-- ---- numbers that stand for no state

-- 1 to 4 are checked as for any state, in their order, and then it is 5
abbrev pub check_bad : Geometry → ℕ → ℕ → ℕ → ℕ
check_bad g cells cache counts = number_of (line_of (check_of g no_state cells cache counts))

-- nothing done, and the state's numbers given back as they came
abbrev pub face_nothing : ℕ → CState → CAnswer
face_nothing refusal c = record { state = c; records = 0; used = 0; written = 0; refusal = refusal }

-- ---- a run

-- a state goes through the model; where there is none, nothing is done
abbrev pub ran_told : CGeometry → CState → Option State → List ℕ → List ℕ → List ℕ → List ℕ → List ℕ → CEnd
ran_told g c (Some s) log cells cache counts out =
    let e = shown (run_of (part_of g) (unitwise (part_of g)) (length out) log (machine s cells cache counts)) out in
    shown_as (face_of e.answer.state) e
ran_told g c None log cells cache counts out =
    face_seen (face_nothing (check_bad (part_of g) (length cells) (length cache) (length counts)) c) cells cache counts out

-- a run of a log, from the part and the state that the numbers stand for
unfoldable pub face_ran : CGeometry → CState → List ℕ → List ℕ → List ℕ → List ℕ → List ℕ → CEnd
face_ran g c log cells cache counts out = ran_told g c (state_of c) log cells cache counts out

-- ---- an event that puts nothing out: the same without output

-- the answer, and the lent memory but for the output
pub record CQuiet : Type 0 where
  pub answer : CAnswer
  pub cells : List ℕ
  pub cache : List ℕ
  pub counts : List ℕ

-- the two together
abbrev pub quiet : CAnswer → List ℕ → List ℕ → List ℕ → CQuiet
quiet a cells cache counts = record { answer = a; cells = cells; cache = cache; counts = counts }

-- the output left out
abbrev pub unheard : CEnd → CQuiet
unheard e = quiet e.answer e.cells e.cache e.counts

-- a run of the log with no output lent
abbrev pub quiet_of : CGeometry → CState → List ℕ → List ℕ → List ℕ → List ℕ → CQuiet
quiet_of g c log cells cache counts = unheard (face_ran g c log cells cache counts [])

-- ---- bytes exchanged, with no log in between

-- what a run leaves, where no log was lent: none of its bytes was used
abbrev pub face_unlogged : CEnd → CEnd
face_unlogged e =
    face_seen
    (record { state = e.answer.state; records = e.answer.records; used = 0; written = e.answer.written; refusal = e.answer.refusal })
    e.cells
    e.cache
    e.counts
    e.out

-- the run of the records
abbrev pub exchanged_of : CGeometry → CState → List Record → List ℕ → List ℕ → List ℕ → List ℕ → CEnd
exchanged_of g c es cells cache counts out = face_unlogged (face_ran g c (written es) cells cache counts out)

-- ---- work of any number of units

-- a state works; where there is none, nothing is done
abbrev pub worked_told : CGeometry → CState → Option State → ℕ → List ℕ → List ℕ → List ℕ → CQuiet
worked_told g c (Some s) n cells cache counts =
    let e = shown (work_of (part_of g) (unitwise (part_of g)) n (machine s cells cache counts)) [] in
    unheard (shown_as (face_of e.answer.state) e)
worked_told g c None n cells cache counts = quiet (face_nothing (check_bad (part_of g) (length cells) (length cache) (length counts)) c) cells cache counts

-- from the part and the state that the numbers stand for
unfoldable pub worked_of : CGeometry → CState → ℕ → List ℕ → List ℕ → List ℕ → CQuiet
worked_of g c n cells cache counts = worked_told g c (state_of c) n cells cache counts

-- ---- a run judged

-- what a run leaves, and whether the suppositions of demand 3 were met
pub record CJudgement : Type 0 where
  pub end : CEnd
  pub orderly : Bool

-- the two together
abbrev pub face_judged : CJudged → List ℕ → List ℕ → List ℕ → List ℕ → CJudgement
face_judged r cells cache counts out = record { end = face_seen r.answer cells cache counts out; orderly = r.orderly }

-- the judgement of the model's run in numbers, with the numbers of a state
abbrev pub judged_as : CState → Judgement → CJudgement
judged_as c j = record { end = shown_as c j.end; orderly = j.orderly }

-- a state's run is judged; where there is no state, nothing is done, and that is not orderly
abbrev pub judged_told : CGeometry → CState → Option State → List ℕ → List ℕ → List ℕ → List ℕ → List ℕ → CJudgement
judged_told g c (Some s) log cells cache counts out =
    let j = judgement_of (given (part_of g) s log cells cache counts out) in
    judged_as (face_of j.end.answer.state) j
judged_told g c None log cells cache counts out = record { end = ran_told g c None log cells cache counts out; orderly = false }

-- a run of a log, judged
unfoldable pub judged_of : CGeometry → CState → List ℕ → List ℕ → List ℕ → List ℕ → List ℕ → CJudgement
judged_of g c log cells cache counts out = judged_told g c (state_of c) log cells cache counts out

-- the code judges the run of a state that stands in for none, and puts the test right
abbrev pub orderly_of : Option State → Bool → Bool
orderly_of (Some s) ok = ok
orderly_of None ok = false
