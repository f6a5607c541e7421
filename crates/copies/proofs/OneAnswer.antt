-- T7 for this crate: the public function's contract allows one answer.
use mathlib.Core.Path.{◌∙◌, sym}
use Rattle.part.specs.OneAnswer.{OneAnswer}
use Rattle.copies.proofs.read.Reads as read-reads
use Rattle.copies.proofs.read.Kinds as read-kinds

pub read_one : OneAnswer 1 read-kinds.ps read-kinds.r read-reads.Post
read_one κs a x y s t p q = p ∙ sym q
