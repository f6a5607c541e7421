-- T7 for this crate: each public function's contract allows one answer, and one content of the lent memory.
use mathlib.Core.List.{List}
use mathlib.Core.Path.{ap, ◌∙◌, sym}
use Prim.Native.Nat.{ℕ}
use Rattle.part.specs.OneAnswer.{OneAnswer, OneEnd}
use Rattle.sheet.specs.Page.{MadeEnd}
use Rattle.sheet.proofs.made_number.Reads as made-number-reads
use Rattle.sheet.proofs.made_number.Kinds as made-number-kinds
use Rattle.sheet.proofs.make.Reads as make-reads
use Rattle.sheet.proofs.make.Kinds as make-kinds

pub made_number_one : OneAnswer 0 made-number-kinds.ps made-number-kinds.r made-number-reads.Post
made_number_one κs a x y s t p q = p ∙ sym q

pub make_one : OneEnd 1 make-kinds.ps make-kinds.r (List ℕ) (λ κs s. s.1.0.now) make-reads.Post
make_one κs a x y s t p q = (ap (λ (e : MadeEnd). e.made) (p ∙ sym q), ap (λ (e : MadeEnd). e.memory) (p ∙ sym q))
