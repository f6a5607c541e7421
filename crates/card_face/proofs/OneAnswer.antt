-- T7 for this crate: each function's contract allows one answer, and one content of the lent memory.
use mathlib.Core.Path.{ap, ◌∙◌, sym}
use Rattle.part.specs.OneAnswer.{OneAnswer, OneEnd}
use Rattle.slot.proofs.OneAnswer.{Lent, lent}
use Rattle.card_face.specs.Face.{CEnd}
use Rattle.card_face.proofs.CCardFromStage.from.Reads as card-from-reads
use Rattle.card_face.proofs.CCardFromStage.from.Kinds as card-from-kinds
use Rattle.card_face.proofs.CCardAnswerFromAnswer.from.Reads as answer-from-reads
use Rattle.card_face.proofs.CCardAnswerFromAnswer.from.Kinds as answer-from-kinds
use Rattle.card_face.proofs.sleet_card_power_up.Reads as power-up-reads
use Rattle.card_face.proofs.sleet_card_power_up.Kinds as power-up-kinds
use Rattle.card_face.proofs.sleet_card_run.Reads as run-reads
use Rattle.card_face.proofs.sleet_card_run.Kinds as run-kinds
use Rattle.card_face.proofs.sleet_card_command.Reads as command-reads
use Rattle.card_face.proofs.sleet_card_command.Kinds as command-kinds

-- cells, protect bits and output of an end
abbrev lent_of : CEnd → Lent
lent_of e = lent e.cells e.bits e.out

pub card_from_one : OneAnswer 0 card-from-kinds.ps card-from-kinds.r card-from-reads.Post
card_from_one κs a x y s t p q = p ∙ sym q

pub answer_from_one : OneAnswer 0 answer-from-kinds.ps answer-from-kinds.r answer-from-reads.Post
answer_from_one κs a x y s t p q = p ∙ sym q

pub power_up_one : OneAnswer 0 power-up-kinds.ps power-up-kinds.r power-up-reads.Post
power_up_one κs a x y s t p q = p ∙ sym q

pub run_one : OneEnd 4 run-kinds.ps run-kinds.r Lent (λ κs s. lent s.1.1.0.now s.1.1.1.0.now s.1.1.1.1.0.now) run-reads.Post
run_one κs a x y s t p q = (ap (λ (e : CEnd). e.answer) (p ∙ sym q), ap lent_of (p ∙ sym q))

pub command_one : OneEnd 3 command-kinds.ps command-kinds.r Lent (λ κs s. lent s.1.1.1.1.0.now s.1.1.1.1.1.0.now s.1.1.1.1.1.1.0.now) command-reads.Post
command_one κs a x y s t p q = (ap (λ (e : CEnd). e.answer) (p ∙ sym q), ap lent_of (p ∙ sym q))
