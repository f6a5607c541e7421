-- What is promised of a run in numbers: those that stand for no state are refused in the paper's order, those of no sound part before all
-- else, an event needs no output but for a shift, and work is the run of its record.
use Rattle.std.specs.Prelude.{false, not, List, ◌≡◌, ℕ, ◌*◌, ◌<◌, eqb, if◌then◌else◌}
use Rattle.part.specs.Part.{page, rows, sound_part}
use Rattle.part.specs.declared.Geometry.{Geometry}
use Rattle.buslog.specs.Log.{bytes_of}
use Rattle.buslog.specs.declared.Record.{Record}
use Rattle.buslog.specs.declared.Record.TheVariants.{Units}
use Rattle.part_numbers.specs.Numbers.{part_of}
use Rattle.part_numbers.specs.declared.CGeometry.{CGeometry}
use Rattle.face.specs.declared.CState.{CState}
use Rattle.walk.specs.Turns.{takes}
use Rattle.sleetanvil.specs.Runs.{face_seen, check_bad, face_nothing, face_ran, quiet, unheard, quiet_of, worked_of, judged_of}

-- numbers that stand for no state: the part, the cells, the cache register and the page counts are checked first, and then it is 5
abbrev pub BadExactly : Type 0
BadExactly =
    (g : Geometry) (cells cache counts : ℕ) →
    check_bad g cells cache counts
    ≡ (if not (sound_part g) then 1
    else if not (eqb cells (rows g * page g)) then 2
    else if not (eqb cache (page g)) then 3
    else if not (eqb counts (rows g)) then 4
    else 5)

-- a part is turned away: whatever else is handed in, a run, a run that is judged and work are refused with 1, nothing is done, and the
-- state's numbers are given back as they came. (Events and transfers are runs.)
abbrev pub TurnedAway : CGeometry → Type 0
TurnedAway g =
    (c : CState) (cells cache counts : List ℕ) →
    ((log out : List ℕ) → face_ran g c log cells cache counts out ≡ face_seen (face_nothing 1 c) cells cache counts out)
    × ((log out : List ℕ) → (judged_of g c log cells cache counts out).end ≡ face_seen (face_nothing 1 c) cells cache counts out)
    × ((n : ℕ) → worked_of g c n cells cache counts ≡ quiet (face_nothing 1 c) cells cache counts)

-- a part that is not sound is, before all else
abbrev pub PartRefused : Type 0
PartRefused = (g : CGeometry) → sound_part (part_of g) ≡ false → TurnedAway g

-- and so is one with a stepping above 1, whatever its other numbers are
abbrev pub SteppingRefused : Type 0
SteppingRefused = (g : CGeometry) → 1 < g.stepping → TurnedAway g

-- an event that is no shift is the same whatever output is lent
abbrev pub AnyOutput : Type 0
AnyOutput =
    (g : CGeometry) (c : CState) (e : Record) (cells cache counts out : List ℕ) → takes e ≡ 0 →
    unheard (face_ran g c (bytes_of e) cells cache counts out) ≡ quiet_of g c (bytes_of e) cells cache counts

-- work of any number of units is what the run of one record with that number would be
abbrev pub WorkRecord : Type 0
WorkRecord =
    (g : CGeometry) (c : CState) (n : ℕ) (cells cache counts : List ℕ) →
    worked_of g c n cells cache counts ≡ quiet_of g c (bytes_of (Units n)) cells cache counts
