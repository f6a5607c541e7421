-- What is promised of a part's numbers: they go there and back, and what stands for no part is not sound.
use Rattle.std.specs.Prelude.{false, ◌≡◌, ◌≤◌, ◌<◌}
use Rattle.part.specs.Part.{sound_part}
use Rattle.part.specs.declared.Geometry.{Geometry}
use Rattle.part_numbers.specs.Numbers.{part_of, face_part}
use Rattle.part_numbers.specs.declared.CGeometry.{CGeometry}

-- the numbers of a part stand for that part
abbrev pub PartBack : Type 0
PartBack = (g : Geometry) → part_of (face_part g) ≡ g

-- numbers with a stepping of 0 or 1 are the numbers of the part that they stand for
abbrev pub FacePartBack : Type 0
FacePartBack = (c : CGeometry) → c.stepping ≤ 1 → face_part (part_of c) ≡ c

-- numbers with any other stepping stand for a part that is not sound
abbrev pub NoSuchStepping : Type 0
NoSuchStepping = (c : CGeometry) → 1 < c.stepping → sound_part (part_of c) ≡ false
