-- T7 for this crate: each public function's contract allows one answer, and one content of the lent memory.
use mathlib.Core.List.{List}
use mathlib.Core.Path.{refl, ap, ◌∙◌, sym}
use Prim.Native.Nat.{ℕ}
use Rattle.part.specs.OneAnswer.{OneAnswer, OneEnd}
use Rattle.card.specs.Card.{Card}
use Rattle.card.proofs.address_of.Reads as address-of-reads
use Rattle.card.proofs.address_of.Kinds as address-of-kinds
use Rattle.card.proofs.sent.Reads as sent-reads
use Rattle.card.proofs.sent.Kinds as sent-kinds
use Rattle.card.proofs.answer_length.Reads as answer-length-reads
use Rattle.card.proofs.answer_length.Kinds as answer-length-kinds
use Rattle.card.proofs.perform.Reads as perform-reads
use Rattle.card.proofs.perform.Kinds as perform-kinds
use Rattle.card.proofs.answer.Reads as answer-reads
use Rattle.card.proofs.answer.Kinds as answer-kinds

-- cells and protect bits
pub record Lent : Type 0 where
  pub cells : List ℕ
  pub bits : List ℕ

abbrev pub lent : List ℕ → List ℕ → Lent
lent cells bits = record { cells = cells; bits = bits }

pub address_of_one : OneAnswer 0 address-of-kinds.ps address-of-kinds.r address-of-reads.Post
address_of_one κs a x y s t p q = p ∙ sym q

pub sent_one : OneAnswer 0 sent-kinds.ps sent-kinds.r sent-reads.Post
sent_one κs a x y s t p q = p ∙ sym q

pub answer_length_one : OneAnswer 0 answer-length-kinds.ps answer-length-kinds.r answer-length-reads.Post
answer_length_one κs a x y s t p q = p ∙ sym q

pub perform_one : OneEnd 2 perform-kinds.ps perform-kinds.r Lent (λ κs s. lent s.1.1.1.1.0.now s.1.1.1.1.1.0.now) perform-reads.Post
perform_one κs a x y s t p q = (ap (λ (c : Card). c.stage) (p ∙ sym q), ap (λ (c : Card). lent c.cells c.bits) (p ∙ sym q))

pub answer_one : OneEnd 3 answer-kinds.ps answer-kinds.r (List ℕ) (λ κs s. s.1.1.1.1.1.0.now) answer-reads.Post
answer_one κs a x y s t p q = (refl, p ∙ sym q)
