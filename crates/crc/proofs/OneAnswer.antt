-- T7 for this crate: the public function's contract allows one answer.
use mathlib.Core.Path.{◌∙◌, sym}
use Rattle.part.specs.OneAnswer.{OneAnswer}
use Rattle.crc.proofs.check_of.Reads as check-of-reads
use Rattle.crc.proofs.check_of.Kinds as check-of-kinds

pub check_of_one : OneAnswer 1 check-of-kinds.ps check-of-kinds.r check-of-reads.Post
check_of_one κs a x y s t p q = p ∙ sym q
