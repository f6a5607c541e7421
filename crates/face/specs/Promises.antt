-- What is promised of the numbers: a state goes there and back, and what stands in for no state is never sound.
use Rattle.std.specs.Prelude.{false, ◌≡◌, Some}
use Rattle.part.specs.declared.Geometry.{Geometry}
use Rattle.device.specs.Sound.{sound_state}
use Rattle.device.specs.declared.State.{State}
use Rattle.face.specs.Face.{state_of, face_of, no_state}
use Rattle.face.specs.declared.CState.{CState}

-- the numbers of a state stand for that state
abbrev pub StateBack : Type 0
StateBack = (s : State) → state_of (face_of s) ≡ Some s

-- numbers that stand for a state are that state's numbers
abbrev pub FaceBack : Type 0
FaceBack = (c : CState) (s : State) → state_of c ≡ Some s → face_of s ≡ c

-- the state that stands in for none is sound on no part
abbrev pub NeverSound : Type 0
NeverSound = (g : Geometry) → sound_state g no_state ≡ false
