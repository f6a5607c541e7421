-- What is promised of the next byte in numbers: when it is refused.
use Rattle.std.specs.Prelude.{not, List, ◌≡◌, ℕ, eqb, length, if◌then◌else◌}
use Rattle.part.specs.Part.{page, sound_part}
use Rattle.part_numbers.specs.Numbers.{part_of}
use Rattle.face.specs.Face.{state_of, sound_told}
use Rattle.part_numbers.specs.declared.CGeometry.{CGeometry}
use Rattle.face.specs.declared.CState.{CState}
use Rattle.beside_face.specs.Beside.{peeked_of}

-- the next byte can be refused with 1, 3 and 5, in this order; numbers that stand for no state are 5
abbrev pub PeekRefused : Type 0
PeekRefused =
    (g : CGeometry) (c : CState) (cache : List ℕ) →
    (peeked_of g c cache).refusal
    ≡ (if not (sound_part (part_of g)) then 1
    else if not (eqb (length cache) (page (part_of g))) then 3
    else if not (sound_told (part_of g) (state_of c)) then 5
    else 0)
