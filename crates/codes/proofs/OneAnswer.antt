-- T7 for this crate: each public function's contract allows one answer.
use mathlib.Core.Path.{◌∙◌, sym}
use Rattle.part.specs.OneAnswer.{OneAnswer}
use Rattle.codes.proofs.instruction_of.Reads as instruction-of-reads
use Rattle.codes.proofs.instruction_of.Kinds as instruction-of-kinds
use Rattle.codes.proofs.byte_of.Reads as byte-of-reads
use Rattle.codes.proofs.byte_of.Kinds as byte-of-kinds
use Rattle.codes.proofs.form_bytes.Reads as form-bytes-reads
use Rattle.codes.proofs.form_bytes.Kinds as form-bytes-kinds
use Rattle.codes.proofs.let_in.Reads as let-in-reads
use Rattle.codes.proofs.let_in.Kinds as let-in-kinds
use Rattle.codes.proofs.heard_as.Reads as heard-as-reads
use Rattle.codes.proofs.heard_as.Kinds as heard-as-kinds

pub instruction_of_one : OneAnswer 0 instruction-of-kinds.ps instruction-of-kinds.r instruction-of-reads.Post
instruction_of_one κs a x y s t p q = p ∙ sym q

pub byte_of_one : OneAnswer 0 byte-of-kinds.ps byte-of-kinds.r byte-of-reads.Post
byte_of_one κs a x y s t p q = p ∙ sym q

pub form_bytes_one : OneAnswer 0 form-bytes-kinds.ps form-bytes-kinds.r form-bytes-reads.Post
form_bytes_one κs a x y s t p q = p ∙ sym q

pub let_in_one : OneAnswer 0 let-in-kinds.ps let-in-kinds.r let-in-reads.Post
let_in_one κs a x y s t p q = p ∙ sym q

pub heard_as_one : OneAnswer 0 heard-as-kinds.ps heard-as-kinds.r heard-as-reads.Post
heard_as_one κs a x y s t p q = p ∙ sym q
