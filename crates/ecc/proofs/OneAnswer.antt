-- T7 for this crate: its public function's contract allows one answer, and one content of the lent memory.
use mathlib.Core.List.{List}
use mathlib.Core.Path.{◌∙◌, sym}
use Prim.Native.Nat.{ℕ}
use Rattle.part.specs.OneAnswer.{OneEnd}
use Rattle.ecc.proofs.mend.Reads as mend-reads
use Rattle.ecc.proofs.mend.Kinds as mend-kinds

pub mend_one : OneEnd 2 mend-kinds.ps mend-kinds.r (List ℕ) (λ κs s. s.1.1.0.now) mend-reads.Post
mend_one κs a x y s t p q = (p.0 ∙ sym q.0, p.1 ∙ sym q.1)
