-- T7 for this crate: the public function's contract allows one answer.
use mathlib.Core.Path.{◌∙◌, sym}
use Rattle.part.specs.OneAnswer.{OneAnswer}
use Rattle.reply.proofs.byte_out.Reads as byte-out-reads
use Rattle.reply.proofs.byte_out.Kinds as byte-out-kinds

pub byte_out_one : OneAnswer 1 byte-out-kinds.ps byte-out-kinds.r byte-out-reads.Post
byte_out_one κs a x y s t p q = p ∙ sym q
