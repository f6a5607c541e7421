-- T7 for this crate: each public function's contract allows one answer, and one content of the lent memory.
use mathlib.Core.List.{List}
use mathlib.Core.Path.{◌∙◌, sym, ap}
use Prim.Native.Nat.{ℕ}
use Rattle.part.specs.OneAnswer.{OneAnswer, OneEnd}
use Rattle.requests.specs.Requests.{Fate, counted, uncounted, counts_after}
use Rattle.requests.proofs.erase_fate.Reads as erase-fate-reads
use Rattle.requests.proofs.erase_fate.Kinds as erase-fate-kinds
use Rattle.requests.proofs.used.Reads as used-reads
use Rattle.requests.proofs.used.Kinds as used-kinds
use Rattle.requests.proofs.program_fate.Reads as program-fate-reads
use Rattle.requests.proofs.program_fate.Kinds as program-fate-kinds
use Rattle.requests.proofs.ask_program.Reads as ask-program-reads
use Rattle.requests.proofs.ask_program.Kinds as ask-program-kinds
use Rattle.requests.proofs.ask_erase.Reads as ask-erase-reads
use Rattle.requests.proofs.ask_erase.Kinds as ask-erase-kinds

pub erase_fate_one : OneAnswer 0 erase-fate-kinds.ps erase-fate-kinds.r erase-fate-reads.Post
erase_fate_one κs a x y s t p q = p ∙ sym q

pub used_one : OneAnswer 1 used-kinds.ps used-kinds.r used-reads.Post
used_one κs a x y s t p q = p ∙ sym q

pub program_fate_one : OneAnswer 1 program-fate-kinds.ps program-fate-kinds.r program-fate-reads.Post
program_fate_one κs a x y s t p q = p ∙ sym q

pub ask_program_one : OneEnd 1 ask-program-kinds.ps ask-program-kinds.r (List ℕ) (λ κs s. s.1.1.1.0.now) ask-program-reads.Post
ask_program_one κs a x y s t p q =
    let e = p.0 ∙ sym q.0 in
    (e, p.1 ∙ ap (λ (f : Fate). counts_after f (counted a.1.1.0) a.1.1.1.0.now) e ∙ sym q.1)

pub ask_erase_one : OneEnd 1 ask-erase-kinds.ps ask-erase-kinds.r (List ℕ) (λ κs s. s.1.1.1.0.now) ask-erase-reads.Post
ask_erase_one κs a x y s t p q =
    let e = p.0 ∙ sym q.0 in
    (e, p.1 ∙ ap (λ (f : Fate). counts_after f (uncounted a.0 a.1.1.0) a.1.1.1.0.now) e ∙ sym q.1)
