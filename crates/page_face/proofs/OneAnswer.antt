-- T7 for this crate: each function's contract allows one answer, and one content of the lent memory.
use mathlib.Core.List.{List}
use mathlib.Core.Path.{ap, ◌∙◌, sym}
use Prim.Native.Nat.{ℕ}
use Rattle.part.specs.OneAnswer.{OneAnswer, OneEnd}
use Rattle.page_face.specs.Face.{CMade}
use Rattle.page_face.proofs.sleet_page_make.Reads as make-reads
use Rattle.page_face.proofs.sleet_page_make.Kinds as make-kinds
use Rattle.page_face.proofs.sleet_page_read.Reads as read-reads
use Rattle.page_face.proofs.sleet_page_read.Kinds as read-kinds
use Rattle.page_face.proofs.sleet_page_check.Reads as check-reads
use Rattle.page_face.proofs.sleet_page_check.Kinds as check-kinds

pub make_one : OneEnd 1 make-kinds.ps make-kinds.r (List ℕ) (λ κs s. s.1.0.now) make-reads.Post
make_one κs a x y s t p q = (ap (λ (m : CMade). m.refusal) (p ∙ sym q), ap (λ (m : CMade). m.memory) (p ∙ sym q))

pub read_one : OneAnswer 1 read-kinds.ps read-kinds.r read-reads.Post
read_one κs a x y s t p q = p ∙ sym q

pub check_one : OneAnswer 1 check-kinds.ps check-kinds.r check-reads.Post
check_one κs a x y s t p q = p ∙ sym q
