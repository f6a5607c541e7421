-- T7 for this crate: each public function's contract allows one answer, and one content of the lent memory.
use mathlib.Core.List.{List}
use mathlib.Core.Path.{ap, ◌∙◌, sym}
use Prim.Native.Nat.{ℕ}
use Rattle.part.specs.OneAnswer.{OneEnd}
use Rattle.lines.specs.Lines.{Laid}
use Rattle.lines.proofs.record_line.Reads as record-line-reads
use Rattle.lines.proofs.record_line.Kinds as record-line-kinds
use Rattle.lines.proofs.end_line.Reads as end-line-reads
use Rattle.lines.proofs.end_line.Kinds as end-line-kinds

pub record_line_one : OneEnd 1 record-line-kinds.ps record-line-kinds.r (List ℕ) (λ κs s. s.1.1.1.1.0.now) record-line-reads.Post
record_line_one κs a x y s t p q = (ap (λ (w : Laid). w.count) (p ∙ sym q), ap (λ (w : Laid). w.out) (p ∙ sym q))

pub end_line_one : OneEnd 1 end-line-kinds.ps end-line-kinds.r (List ℕ) (λ κs s. s.1.1.0.now) end-line-reads.Post
end_line_one κs a x y s t p q = (ap (λ (w : Laid). w.count) (p ∙ sym q), ap (λ (w : Laid). w.out) (p ∙ sym q))
