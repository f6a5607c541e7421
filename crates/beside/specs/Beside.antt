-- Beside a run: the next byte on DO, the units left of an operation, work of any length, and memory that was never used.
use Rattle.std.specs.Prelude.{Result, Ok, Err, ◌&&◌, List, [], ◌∷◌, ℕ, ◌-◌, ◌*◌, length, replicate, if◌then◌else◌}
use Rattle.part.specs.Part.{page, rows, sound_part}
use Rattle.part.specs.declared.Geometry.{Geometry}
use Rattle.buslog.specs.declared.Record.TheVariants.{Units}
use Rattle.array.specs.Jobs.{length_of}
use Rattle.array.specs.declared.Job.{Job}
use Rattle.array.specs.declared.Work.{Work}
use Rattle.array.specs.declared.Work.TheVariants.{Idle, Busy}
use Rattle.device.specs.Machine.{Machine}
use Rattle.device.specs.Work.{Array}
use Rattle.device.specs.Instructions.{answer}
use Rattle.device.specs.Step.{power_up}
use Rattle.device.specs.Sound.{sound_state}
use Rattle.device.specs.declared.State.{State}
use Rattle.refusals.specs.Refusals.{check_of, passed, checked_as}
use Rattle.refusals.specs.declared.Refusal.{Refusal}
use Rattle.refusals.specs.declared.Refusal.TheVariants.{Done}
use Rattle.model.specs.Runs.{Outcome, did}

-- ---- the next byte

-- part, cache register and state are checked as before a run; cells and page counts are not lent, and count as those of the part
abbrev pub peek_check : Geometry → State → List ℕ → Result Unit Refusal
peek_check g s cache = check_of g s (rows g * page g) (length cache) (rows g)

-- a byte, where a check refuses nothing
abbrev pub byte_after : Result Unit Refusal → ℕ → Result ℕ Refusal
byte_after (Ok u) b = Ok b
byte_after (Err r) b = Err r

-- the byte that a shift puts on DO, or why it is refused
unfoldable pub peek_of : Geometry → State → List ℕ → Result ℕ Refusal
peek_of g s cache = byte_after (peek_check g s cache) (answer g s cache)

-- ---- the units of an operation

-- all of them, on a sound part
abbrev pub operation_length : Geometry → Job → ℕ
operation_length g j = if sound_part g then length_of g j else 0

-- those that are not done
abbrev pub left_in : Geometry → Work → ℕ
left_in g Idle = 0
left_in g (Busy j i) = length_of g j - i

-- the same of a state, if it and the part are sound
unfoldable pub units_left : Geometry → State → ℕ
units_left g s = if sound_part g && sound_state g s then left_in g s.work else 0

-- ---- work of any length

-- the checks of a run, and then one work record, with more units than a log can say
unfoldable pub work_of : Geometry → Array → ℕ → Machine → Outcome
work_of g arr n m = if passed (checked_as g m) then did g arr m Done (Units n ∷ []) else did g arr m (checked_as g m) []

-- ---- memory that was never used

-- the answer, and the lent memory
pub record Blanked : Type 0 where
  pub answer : Result Unit Refusal
  pub cells : List ℕ
  pub cache : List ℕ
  pub counts : List ℕ

-- the four together
abbrev pub blank_end : Result Unit Refusal → List ℕ → List ℕ → List ℕ → Blanked
blank_end x cells cache counts = record { answer = x; cells = cells; cache = cache; counts = counts }

-- what a run from power-up would refuse
abbrev pub blank_check : Geometry → List ℕ → List ℕ → List ℕ → Result Unit Refusal
blank_check g cells cache counts = check_of g power_up (length cells) (length cache) (length counts)

-- after a check: cells and cache register FFh, page counts 0; where it refuses not a byte changed
abbrev pub blank_after : Result Unit Refusal → List ℕ → List ℕ → List ℕ → Blanked
blank_after (Ok u) cells cache counts = blank_end (Ok u) (replicate (length cells) 0xFF) (replicate (length cache) 0xFF) (replicate (length counts) 0)
blank_after (Err r) cells cache counts = blank_end (Err r) cells cache counts

-- the memory of a device that was never used
unfoldable pub blank_of : Geometry → List ℕ → List ℕ → List ℕ → Blanked
blank_of g cells cache counts = blank_after (blank_check g cells cache counts) cells cache counts
