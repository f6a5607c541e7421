-- T7 for this crate: the run's contract allows one answer, and one content of the lent memory.
use mathlib.Core.Path.{ap, ◌∙◌, sym}
use Rattle.part.specs.OneAnswer.{OneEnd}
use Rattle.model.specs.Runs.{End}
use Rattle.walk.proofs.OneAnswer.{Lent, lent}
use Rattle.model.proofs.OneAnswer.{lent_of}
use Rattle.quick.proofs.run.Reads as run-reads
use Rattle.quick.proofs.run.Kinds as run-kinds

pub run_one : OneEnd 5 run-kinds.ps run-kinds.r Lent (λ κs s. lent s.1.1.1.0.now s.1.1.1.1.0.now s.1.1.1.1.1.0.now s.1.1.1.1.1.1.0.now) run-reads.Post
run_one κs a x y s t p q = (ap (λ (e : End). e.answer) (p ∙ sym q), ap lent_of (p ∙ sym q))
