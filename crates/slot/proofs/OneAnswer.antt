-- T7 for this crate: each public function's contract allows one answer, and one content of the lent memory.
use mathlib.Core.List.{List}
use mathlib.Core.Path.{ap, ◌∙◌, sym}
use Prim.Native.Nat.{ℕ}
use Rattle.part.specs.OneAnswer.{OneAnswer, OneEnd}
use Rattle.slot.specs.Runs.{End}
use Rattle.slot.proofs.number.Reads as number-reads
use Rattle.slot.proofs.number.Kinds as number-kinds
use Rattle.slot.proofs.RefusalFromWhy.from.Reads as from-reads
use Rattle.slot.proofs.RefusalFromWhy.from.Kinds as from-kinds
use Rattle.slot.proofs.run.Reads as run-reads
use Rattle.slot.proofs.run.Kinds as run-kinds
use Rattle.slot.proofs.command.Reads as command-reads
use Rattle.slot.proofs.command.Kinds as command-kinds

-- cells, protect bits and output
pub record Lent : Type 0 where
  pub cells : List ℕ
  pub bits : List ℕ
  pub out : List ℕ

abbrev pub lent : List ℕ → List ℕ → List ℕ → Lent
lent cells bits out = record { cells = cells; bits = bits; out = out }

-- those of an end
abbrev lent_of : End → Lent
lent_of e = lent e.cells e.bits e.out

pub number_one : OneAnswer 0 number-kinds.ps number-kinds.r number-reads.Post
number_one κs a x y s t p q = p ∙ sym q

pub refusal_from_one : OneAnswer 0 from-kinds.ps from-kinds.r from-reads.Post
refusal_from_one κs a x y s t p q = p ∙ sym q

pub run_one : OneEnd 4 run-kinds.ps run-kinds.r Lent (λ κs s. lent s.1.1.0.now s.1.1.1.0.now s.1.1.1.1.0.now) run-reads.Post
run_one κs a x y s t p q = (ap (λ (e : End). e.answer) (p ∙ sym q), ap lent_of (p ∙ sym q))

pub command_one : OneEnd 3 command-kinds.ps command-kinds.r Lent (λ κs s. lent s.1.1.1.1.0.now s.1.1.1.1.1.0.now s.1.1.1.1.1.1.0.now) command-reads.Post
command_one κs a x y s t p q = (ap (λ (e : End). e.answer) (p ∙ sym q), ap lent_of (p ∙ sym q))
