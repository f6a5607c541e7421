-- T7 for this crate: the public function's contract allows one answer, and one content of the lent memory.
use mathlib.Core.Path.{ap, ◌∙◌, sym}
use Rattle.part.specs.OneAnswer.{OneEnd}
use Rattle.walk.proofs.OneAnswer.{Lent, lent}
use Rattle.model.proofs.OneAnswer.{lent_of}
use Rattle.orderly.specs.declared.Judged.{Judged}
use Rattle.orderly.specs.Judge.{Judgement}
use Rattle.orderly.proofs.judge.Reads as judge-reads
use Rattle.orderly.proofs.judge.Kinds as judge-kinds

abbrev judged_of : Judgement → Judged
judged_of j = record { answer = j.end.answer; orderly = j.orderly }

pub judge_one : OneEnd 5 judge-kinds.ps judge-kinds.r Lent (λ κs s. lent s.1.1.1.0.now s.1.1.1.1.0.now s.1.1.1.1.1.0.now s.1.1.1.1.1.1.0.now) judge-reads.Post
judge_one κs a x y s t p q = (ap judged_of (p ∙ sym q), ap (λ (j : Judgement). lent_of j.end) (p ∙ sym q))
