-- T7 for this crate: each public function's contract allows one answer, and one content of the lent memory.
use mathlib.Core.List.{List}
use mathlib.Core.Path.{ap, ◌∙◌, sym}
use Prim.Native.Nat.{ℕ}
use Rattle.part.specs.OneAnswer.{OneAnswer, OneEnd}
use Rattle.model.specs.Runs as model
use Rattle.beside.specs.Beside.{Blanked}
use Rattle.beside.proofs.peek.Reads as peek-reads
use Rattle.beside.proofs.peek.Kinds as peek-kinds
use Rattle.beside.proofs.operation_length.Reads as operation-length-reads
use Rattle.beside.proofs.operation_length.Kinds as operation-length-kinds
use Rattle.beside.proofs.units_left.Reads as units-left-reads
use Rattle.beside.proofs.units_left.Kinds as units-left-kinds
use Rattle.beside.proofs.work.Reads as work-reads
use Rattle.beside.proofs.work.Kinds as work-kinds
use Rattle.beside.proofs.blank.Reads as blank-reads
use Rattle.beside.proofs.blank.Kinds as blank-kinds

-- cells, cache register and page counts
pub record Lent : Type 0 where
  pub cells : List ℕ
  pub cache : List ℕ
  pub counts : List ℕ

abbrev pub lent : List ℕ → List ℕ → List ℕ → Lent
lent cells cache counts = record { cells = cells; cache = cache; counts = counts }

pub peek_one : OneAnswer 1 peek-kinds.ps peek-kinds.r peek-reads.Post
peek_one κs a x y s t p q = p ∙ sym q

pub operation_length_one : OneAnswer 0 operation-length-kinds.ps operation-length-kinds.r operation-length-reads.Post
operation_length_one κs a x y s t p q = p ∙ sym q

pub units_left_one : OneAnswer 0 units-left-kinds.ps units-left-kinds.r units-left-reads.Post
units_left_one κs a x y s t p q = p ∙ sym q

pub work_one : OneEnd 3 work-kinds.ps work-kinds.r Lent (λ κs s. lent s.1.1.1.0.now s.1.1.1.1.0.now s.1.1.1.1.1.0.now) work-reads.Post
work_one κs a x y s t p q = (ap (λ (e : model.End). e.answer) (p ∙ sym q), ap (λ (e : model.End). lent e.cells e.cache e.counts) (p ∙ sym q))

pub blank_one : OneEnd 3 blank-kinds.ps blank-kinds.r Lent (λ κs s. lent s.1.0.now s.1.1.0.now s.1.1.1.0.now) blank-reads.Post
blank_one κs a x y s t p q = (ap (λ (e : Blanked). e.answer) (p ∙ sym q), ap (λ (e : Blanked). lent e.cells e.cache e.counts) (p ∙ sym q))
