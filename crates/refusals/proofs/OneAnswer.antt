-- T7 for this crate: each public function's contract allows one answer.
use mathlib.Core.Path.{◌∙◌, sym}
use Rattle.part.specs.OneAnswer.{OneAnswer}
use Rattle.refusals.proofs.number_of.Reads as number-of-reads
use Rattle.refusals.proofs.number_of.Kinds as number-of-kinds
use Rattle.refusals.proofs.RefusalFromWhy.from.Reads as from-reads
use Rattle.refusals.proofs.RefusalFromWhy.from.Kinds as from-kinds
use Rattle.refusals.proofs.check.Reads as check-reads
use Rattle.refusals.proofs.check.Kinds as check-kinds

pub number_of_one : OneAnswer 0 number-of-kinds.ps number-of-kinds.r number-of-reads.Post
number_of_one κs a x y s t p q = p ∙ sym q

pub from_one : OneAnswer 0 from-kinds.ps from-kinds.r from-reads.Post
from_one κs a x y s t p q = p ∙ sym q

pub check_one : OneAnswer 0 check-kinds.ps check-kinds.r check-reads.Post
check_one κs a x y s t p q = p ∙ sym q
