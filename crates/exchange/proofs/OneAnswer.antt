-- T7 for this crate: each public function's contract allows one answer, and one content of the lent memory.
use mathlib.Core.Path.{ap, ◌∙◌, sym}
use Rattle.part.specs.OneAnswer.{OneEnd}
use Rattle.walk.proofs.OneAnswer.{Lent, lent}
use Rattle.model.specs.Runs.{End}
use Rattle.model.proofs.OneAnswer.{lent_of}
use Rattle.exchange.proofs.shifts.Reads as shifts-reads
use Rattle.exchange.proofs.shifts.Kinds as shifts-kinds
use Rattle.exchange.proofs.transfer.Reads as transfer-reads
use Rattle.exchange.proofs.transfer.Kinds as transfer-kinds

pub shifts_one : OneEnd 5 shifts-kinds.ps shifts-kinds.r Lent (λ κs s. lent s.1.1.1.0.now s.1.1.1.1.0.now s.1.1.1.1.1.0.now s.1.1.1.1.1.1.0.now) shifts-reads.Post
shifts_one κs a x y s t p q = (ap (λ (e : End). e.answer) (p ∙ sym q), ap lent_of (p ∙ sym q))

pub transfer_one : OneEnd 5 transfer-kinds.ps transfer-kinds.r Lent (λ κs s. lent s.1.1.1.0.now s.1.1.1.1.0.now s.1.1.1.1.1.0.now s.1.1.1.1.1.1.0.now) transfer-reads.Post
transfer_one κs a x y s t p q = (ap (λ (e : End). e.answer) (p ∙ sym q), ap lent_of (p ∙ sym q))
