-- Beside a run, in plain numbers: the header's version, the next byte, the units of an operation, and memory that was never used.
use Rattle.std.specs.Prelude.{List, ℕ, eqb, if◌then◌else◌, Option, Some, None, Result, Ok, Err}
use Rattle.device.specs.declared.State.{State}
use Rattle.part.specs.declared.Geometry.{Geometry}
use Rattle.array.specs.declared.Job.TheVariants.{Read, Program, Erase, Restart}
use Rattle.part_numbers.specs.Numbers.{part_of}
use Rattle.face.specs.Face.{row, state_of, stand_in}
use Rattle.part_numbers.specs.declared.CGeometry.{CGeometry}
use Rattle.face.specs.declared.CState.{CState}
use Rattle.face.specs.declared.CPeek.{CPeek}
use Rattle.refusals.specs.Refusals.{number_of, line_of}
use Rattle.beside.specs.Beside.{peek_of, operation_length, units_left, Blanked, blank_of}
use Rattle.refusals.specs.declared.Refusal.{Refusal}

-- the header's number; the header that had none was the first
abbrev pub version : ℕ
version = 3

-- ---- the next byte

-- in numbers; FFh where it is refused
abbrev pub face_peek : Result ℕ Refusal → CPeek
face_peek (Ok b) = record { refusal = 0; byte = b }
face_peek (Err r) = record { refusal = number_of r; byte = 0xFF }

-- numbers that stand for no state are refused as a state that is sound on no part
abbrev pub peeked_of : CGeometry → CState → List ℕ → CPeek
peeked_of g c cache = face_peek (peek_of (part_of g) (stand_in (state_of c)) cache)

-- ---- the units of an operation

-- by the number of its job: 1 read, 2 program, 3 erase, 4 reset; 0 for any other
abbrev pub length_at : Geometry → ℕ → ℕ
length_at g job =
    if eqb job 1 then operation_length g (Read (row 0))
    else if eqb job 2 then operation_length g (Program (row 0))
    else if eqb job 3 then operation_length g (Erase (row 0))
    else if eqb job 4 then operation_length g Restart
    else 0

-- those left; no state has none
abbrev pub left_told : Geometry → Option State → ℕ
left_told g (Some s) = units_left g s
left_told g None = 0

-- ---- memory that was never used

-- the number of refusal, and the lent memory
pub record CBlank : Type 0 where
  pub refusal : ℕ
  pub cells : List ℕ
  pub cache : List ℕ
  pub counts : List ℕ

-- the four together
abbrev pub face_blank : ℕ → List ℕ → List ℕ → List ℕ → CBlank
face_blank r cells cache counts = record { refusal = r; cells = cells; cache = cache; counts = counts }

-- in numbers
abbrev pub blanked_as : Blanked → CBlank
blanked_as b = face_blank (number_of (line_of b.answer)) b.cells b.cache b.counts

abbrev pub blanked_of : CGeometry → List ℕ → List ℕ → List ℕ → CBlank
blanked_of g cells cache counts = blanked_as (blank_of (part_of g) cells cache counts)
