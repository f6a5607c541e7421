-- T7 for this crate: each public function's contract allows one answer, and one content of the lent memory.
use mathlib.Core.Path.{ap, ◌∙◌, sym}
use Rattle.part.specs.OneAnswer.{OneEnd}
use Rattle.walk.proofs.OneAnswer.{Lent, lent}
use Rattle.model.specs.Runs.{End}
use Rattle.model.proofs.run.Reads as run-reads
use Rattle.model.proofs.run.Kinds as run-kinds
use Rattle.model.proofs.step.Reads as step-reads
use Rattle.model.proofs.step.Kinds as step-kinds

-- cells, cache register, page counts and output of an end
abbrev pub lent_of : End → Lent
lent_of e = lent e.cells e.cache e.counts e.out

pub run_one : OneEnd 5 run-kinds.ps run-kinds.r Lent (λ κs s. lent s.1.1.1.0.now s.1.1.1.1.0.now s.1.1.1.1.1.0.now s.1.1.1.1.1.1.0.now) run-reads.Post
run_one κs a x y s t p q = (ap (λ (e : End). e.answer) (p ∙ sym q), ap lent_of (p ∙ sym q))

pub step_one : OneEnd 4 step-kinds.ps step-kinds.r Lent (λ κs s. lent s.1.1.1.0.now s.1.1.1.1.0.now s.1.1.1.1.1.0.now s.1.1.1.1.1.1.0.now) step-reads.Post
step_one κs a x y s t p q = (ap (λ (e : End). e.answer) (p ∙ sym q), ap lent_of (p ∙ sym q))
