-- The part in plain numbers, as C has them: what they stand for, the numbers of a part, and the lengths that the lent memory must have.
use Rattle.std.specs.Prelude.{ℕ, ◌*◌, eqb, if◌then◌else◌, Option, Some, None}
use Rattle.part.specs.Part.{page, rows, sound_part, no_part}
use Rattle.part.specs.declared.Geometry.{Geometry}
use Rattle.part.specs.declared.Stepping.{Stepping}
use Rattle.part.specs.declared.Stepping.TheVariants.{First, Second}
use Rattle.part_numbers.specs.declared.CGeometry.{CGeometry}

-- the stepping of a number: 0 first, 1 second, and no other number has one
abbrev pub stepping_at : ℕ → Option Stepping
stepping_at k = if eqb k 0 then Some First else if eqb k 1 then Some Second else None

-- the geometry with a stepping; with none it is that of no part
abbrev pub part_as : CGeometry → Option Stepping → Geometry
part_as g (Some st) = record { main = g.main; spare = g.spare; pages = g.pages; blocks = g.blocks; id0 = g.id0; id1 = g.id1; stepping = st }
part_as g None = no_part

-- the geometry that the numbers stand for; a stepping above 1 is that of no part
abbrev pub part_of : CGeometry → Geometry
part_of g = part_as g (stepping_at g.stepping)

-- the number of a stepping
abbrev pub stepping_number : Stepping → ℕ
stepping_number First = 0
stepping_number Second = 1

-- the numbers of a geometry
abbrev pub face_part : Geometry → CGeometry
face_part g =
    record {
      main = g.main;
      spare = g.spare;
      pages = g.pages;
      blocks = g.blocks;
      id0 = g.id0;
      id1 = g.id1;
      stepping = stepping_number g.stepping;
    }

-- the lengths that the lent memory must have, 0 for an unsound part: P times K times N cells
abbrev pub cells_length : Geometry → ℕ
cells_length g = if sound_part g then rows g * page g else 0

-- P bytes of cache register
abbrev pub cache_length : Geometry → ℕ
cache_length g = if sound_part g then page g else 0

-- K times N page counts
abbrev pub counts_length : Geometry → ℕ
counts_length g = if sound_part g then rows g else 0
