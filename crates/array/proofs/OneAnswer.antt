-- T7 for this crate: each public function's contract allows one answer, and one content of the lent memory.
use mathlib.Core.Path.{◌∙◌, sym}
use Rattle.part.specs.OneAnswer.{OneAnswer, OneEnd}
use Rattle.array.specs.Jobs.{Store, store}
use Rattle.array.proofs.length_of.Reads as length-of-reads
use Rattle.array.proofs.length_of.Kinds as length-of-kinds
use Rattle.array.proofs.advance.Reads as advance-reads
use Rattle.array.proofs.advance.Kinds as advance-kinds

pub length_of_one : OneAnswer 0 length-of-kinds.ps length-of-kinds.r length-of-reads.Post
length_of_one κs a x y s t p q = p ∙ sym q

pub advance_one : OneEnd 2 advance-kinds.ps advance-kinds.r Store (λ κs s. store s.1.1.1.1.0.now s.1.1.1.1.1.0.now) advance-reads.Post
advance_one κs a x y s t p q = (p.0 ∙ sym q.0, p.1 ∙ sym q.1)
