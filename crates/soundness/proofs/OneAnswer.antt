-- T7 for this crate: each public function's contract allows one answer.
use mathlib.Core.Path.{◌∙◌, sym}
use Rattle.part.specs.OneAnswer.{OneAnswer}
use Rattle.soundness.proofs.registers_sound.Reads as registers-sound-reads
use Rattle.soundness.proofs.registers_sound.Kinds as registers-sound-kinds
use Rattle.soundness.proofs.transfer_sound.Reads as transfer-sound-reads
use Rattle.soundness.proofs.transfer_sound.Kinds as transfer-sound-kinds
use Rattle.soundness.proofs.work_sound.Reads as work-sound-reads
use Rattle.soundness.proofs.work_sound.Kinds as work-sound-kinds
use Rattle.soundness.proofs.calm.Reads as calm-reads
use Rattle.soundness.proofs.calm.Kinds as calm-kinds

pub registers_sound_one : OneAnswer 0 registers-sound-kinds.ps registers-sound-kinds.r registers-sound-reads.Post
registers_sound_one κs a x y s t p q = p ∙ sym q

pub transfer_sound_one : OneAnswer 0 transfer-sound-kinds.ps transfer-sound-kinds.r transfer-sound-reads.Post
transfer_sound_one κs a x y s t p q = p ∙ sym q

pub work_sound_one : OneAnswer 0 work-sound-kinds.ps work-sound-kinds.r work-sound-reads.Post
work_sound_one κs a x y s t p q = p ∙ sym q

pub calm_one : OneAnswer 0 calm-kinds.ps calm-kinds.r calm-reads.Post
calm_one κs a x y s t p q = p ∙ sym q
