-- T7 for this crate: each public function's contract allows one answer, and one content of the lent memory.
use mathlib.Core.List.{List}
use mathlib.Core.Path.{ap, ◌∙◌, sym, refl}
use Prim.Native.Nat.{ℕ}
use Rattle.part.specs.OneAnswer.{OneEnd}
use Rattle.texts.specs.Text.{CLaid}
use Rattle.texts.proofs.copy.Reads as copy-reads
use Rattle.texts.proofs.copy.Kinds as copy-kinds
use Rattle.texts.proofs.lay_text.Reads as lay-text-reads
use Rattle.texts.proofs.lay_text.Kinds as lay-text-kinds

pub lay_text_one : OneEnd 1 lay-text-kinds.ps lay-text-kinds.r (List ℕ) (λ κs s. s.1.0.now) lay-text-reads.Post
lay_text_one κs a x y s t p q = (ap (λ (w : CLaid). w.count) (p ∙ sym q), ap (λ (w : CLaid). w.out) (p ∙ sym q))

pub copy_one : OneEnd 2 copy-kinds.ps copy-kinds.r (List ℕ) (λ κs s. s.1.0.now) copy-reads.Post
copy_one κs a x y s t p q = (refl, p ∙ sym q)
