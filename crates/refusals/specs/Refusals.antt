-- Document 01, "Numbers of refusal": the refusals, their numbers, and the checks 1 to 5.
use Rattle.std.specs.Prelude.{Result, Ok, Err, Bool, true, false, not, ◌≡◌, ℕ, ◌*◌, eqb, length, if◌then◌else◌}
use Rattle.part.specs.Part.{page, rows, sound_part}
use Rattle.part.specs.declared.Geometry.{Geometry}
use Rattle.buslog.specs.declared.Why.{Why}
use Rattle.device.specs.Machine.{Machine}
use Rattle.device.specs.Sound.{sound_state}
use Rattle.device.specs.declared.State.{State}
use Rattle.buslog.specs.declared.Why.TheVariants as why
use Rattle.refusals.specs.declared.Refusal.{Refusal}
use Rattle.refusals.specs.declared.Refusal.TheVariants.{Done, BadPart, BadCells, BadCache, BadCounts, BadState, BadKind, ShortBody, BadLevel, NoRoom}

-- the number of each refusal
abbrev pub number_of : Refusal → ℕ
number_of Done = 0
number_of BadPart = 1
number_of BadCells = 2
number_of BadCache = 3
number_of BadCounts = 4
number_of BadState = 5
number_of BadKind = 6
number_of ShortBody = 7
number_of BadLevel = 8
number_of NoRoom = 9

-- the refusal for each reason why the reading of a log ends
abbrev pub refusal_of : Why → Refusal
refusal_of why.End = Done
refusal_of why.BadKind = BadKind
refusal_of why.ShortBody = ShortBody
refusal_of why.BadLevel = BadLevel

-- 1 to 5 are checked once, in this order: the part, the lengths of cells, cache register and page counts, the state
unfoldable pub check_of : Geometry → State → ℕ → ℕ → ℕ → Result Unit Refusal
check_of g s cells cache counts =
    if not (sound_part g) then Err BadPart
    else if not (eqb cells (rows g * page g)) then Err BadCells
    else if not (eqb cache (page g)) then Err BadCache
    else if not (eqb counts (rows g)) then Err BadCounts
    else if not (sound_state g s) then Err BadState
    else Ok tt

-- nothing is refused
abbrev pub passed : Refusal → Bool
passed Done = true
passed BadPart = false
passed BadCells = false
passed BadCache = false
passed BadCounts = false
passed BadState = false
passed BadKind = false
passed ShortBody = false
passed BadLevel = false
passed NoRoom = false

-- the line of the table for an answer that may be refused: line 0 where it is not
abbrev pub line_of : {A : Type 0} → Result A Refusal → Refusal
line_of (Ok x) = Done
line_of (Err r) = r

-- what is checked of a machine before any record
abbrev pub checked_as : Geometry → Machine → Refusal
checked_as g m = line_of (check_of g m.state (length m.store.cells) (length m.store.cache) (length m.counts))

-- a check that refuses never refuses with line 0: an answer is line 0 exactly where it is `Ok`
abbrev pub NeverDone : Type 0
NeverDone = (g : Geometry) (s : State) (cells cache counts : ℕ) (r : Refusal) → check_of g s cells cache counts ≡ Err r → passed r ≡ false
