-- T7 for this crate: each public function's contract allows one answer.
use mathlib.Core.Path.{◌∙◌, sym}
use Rattle.part.specs.OneAnswer.{OneAnswer}
use Rattle.face.proofs.state_of.Reads as state-of-reads
use Rattle.face.proofs.state_of.Kinds as state-of-kinds
use Rattle.face.proofs.face_of.Reads as face-of-reads
use Rattle.face.proofs.face_of.Kinds as face-of-kinds
use Rattle.face.proofs.state_sound.Reads as state-sound-reads
use Rattle.face.proofs.state_sound.Kinds as state-sound-kinds
use Rattle.face.proofs.stand_in.Reads as stand-in-reads
use Rattle.face.proofs.stand_in.Kinds as stand-in-kinds
use Rattle.face.proofs.handed_back.Reads as handed-back-reads
use Rattle.face.proofs.handed_back.Kinds as handed-back-kinds

pub state_of_one : OneAnswer 0 state-of-kinds.ps state-of-kinds.r state-of-reads.Post
state_of_one κs a x y s t p q = p ∙ sym q

pub face_of_one : OneAnswer 0 face-of-kinds.ps face-of-kinds.r face-of-reads.Post
face_of_one κs a x y s t p q = p ∙ sym q

pub state_sound_one : OneAnswer 0 state-sound-kinds.ps state-sound-kinds.r state-sound-reads.Post
state_sound_one κs a x y s t p q = p ∙ sym q

pub stand_in_one : OneAnswer 0 stand-in-kinds.ps stand-in-kinds.r stand-in-reads.Post
stand_in_one κs a x y s t p q = p ∙ sym q

pub handed_back_one : OneAnswer 0 handed-back-kinds.ps handed-back-kinds.r handed-back-reads.Post
handed_back_one κs a x y s t p q = p ∙ sym q
