-- The card in numbers, and what a run in C answers: that of the card slot, but for a number that is no stage.
use Rattle.std.specs.Prelude.{not, List, ℕ, eqb, leb, length, if◌then◌else◌}
use Rattle.card.specs.Card.{card}
use Rattle.card.specs.declared.Stage.{Stage}
use Rattle.card.specs.declared.Stage.TheVariants.{Fresh, Counted, Half, Open}
use Rattle.slot.specs.Turns.{number_of}
use Rattle.slot.specs.Runs.{End, run_of, shown}
use Rattle.slot.specs.declared.Answer.{Answer}
use Rattle.card_face.specs.declared.CCard.{CCard}
use Rattle.card_face.specs.declared.CCardAnswer.{CCardAnswer}

-- the number of a stage, and the stage of a number
abbrev pub stage_number : Stage → ℕ
stage_number Fresh = 0
stage_number Counted = 1
stage_number Half = 2
stage_number Open = 3

unfoldable pub stage_of : ℕ → Stage
stage_of n = if eqb n 0 then Fresh else if eqb n 1 then Counted else if eqb n 2 then Half else Open

abbrev pub face_card : Stage → CCard
face_card s = record { stage = stage_number s }

-- an answer in numbers
abbrev pub face_answer : Answer → CCardAnswer
face_answer a = record { records = a.records; used = a.used; written = a.written; card = face_card a.stage; refusal = number_of a.refusal }

-- what the caller sees: the answer, and every byte of the lent memory
pub record CEnd : Type 0 where
  pub answer : CCardAnswer
  pub cells : List ℕ
  pub bits : List ℕ
  pub out : List ℕ

abbrev pub face_seen : CCardAnswer → List ℕ → List ℕ → List ℕ → CEnd
face_seen a cells bits out = record { answer = a; cells = cells; bits = bits; out = out }

abbrev pub face_end : End → CEnd
face_end e = face_seen (face_answer e.answer) e.cells e.bits e.out

-- a number above 3 is no stage: 5, after 17 and 18
unfoldable pub refused_as : ℕ → ℕ → ℕ
refused_as cells bits = if not (eqb cells 1024) then 17 else if not (eqb bits 128) then 18 else 5

-- nothing done: all counts 0, the card returned as given
abbrev pub face_refused : CCard → ℕ → CCardAnswer
face_refused k refusal = record { records = 0; used = 0; written = 0; card = k; refusal = refusal }

-- a run
unfoldable pub face_run : CCard → List ℕ → List ℕ → List ℕ → List ℕ → CEnd
face_run k log cells bits out =
    if leb k.stage 3 then face_end (shown (run_of (length out) log (card (stage_of k.stage) cells bits)) out)
    else face_seen (face_refused k (refused_as (length cells) (length bits))) cells bits out
