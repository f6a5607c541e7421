-- T7 for this crate: each public function's contract allows one answer, and one content of the lent memory.
use mathlib.Core.List.{List}
use mathlib.Core.Path.{◌∙◌, sym, refl}
use Prim.Native.Nat.{ℕ}
use Rattle.part.specs.OneAnswer.{OneAnswer, OneEnd}
use Rattle.stretches.proofs.read_units.Reads as read_units-reads
use Rattle.stretches.proofs.read_units.Kinds as read_units-kinds
use Rattle.stretches.proofs.flipped_units.Reads as flipped_units-reads
use Rattle.stretches.proofs.flipped_units.Kinds as flipped_units-kinds
use Rattle.stretches.proofs.turn_back.Reads as turn_back-reads
use Rattle.stretches.proofs.turn_back.Kinds as turn_back-kinds
use Rattle.stretches.proofs.program_units.Reads as program_units-reads
use Rattle.stretches.proofs.program_units.Kinds as program_units-kinds
use Rattle.stretches.proofs.erase_units.Reads as erase_units-reads
use Rattle.stretches.proofs.erase_units.Kinds as erase_units-kinds
use Rattle.stretches.proofs.ones_in.Reads as ones_in-reads
use Rattle.stretches.proofs.ones_in.Kinds as ones_in-kinds
use Rattle.stretches.proofs.all_zero.Reads as all_zero-reads
use Rattle.stretches.proofs.all_zero.Kinds as all_zero-kinds

pub read_units_one : OneEnd 2 read_units-kinds.ps read_units-kinds.r (List ℕ) (λ κs s. s.1.0.now) read_units-reads.Post
read_units_one κs a x y s t p q = (refl, p ∙ sym q)

pub flipped_units_one : OneEnd 3 flipped_units-kinds.ps flipped_units-kinds.r (List ℕ) (λ κs s. s.1.1.0.now) flipped_units-reads.Post
flipped_units_one κs a x y s t p q = (refl, p ∙ sym q)

pub turn_back_one : OneEnd 2 turn_back-kinds.ps turn_back-kinds.r (List ℕ) (λ κs s. s.1.0.now) turn_back-reads.Post
turn_back_one κs a x y s t p q = (refl, p ∙ sym q)

pub program_units_one : OneEnd 2 program_units-kinds.ps program_units-kinds.r (List ℕ) (λ κs s. s.0.now) program_units-reads.Post
program_units_one κs a x y s t p q = (refl, p ∙ sym q)

pub erase_units_one : OneEnd 1 erase_units-kinds.ps erase_units-kinds.r (List ℕ) (λ κs s. s.0.now) erase_units-reads.Post
erase_units_one κs a x y s t p q = (refl, p ∙ sym q)

pub ones_in_one : OneAnswer 1 ones_in-kinds.ps ones_in-kinds.r ones_in-reads.Post
ones_in_one κs a x y s t p q = p.0 ∙ sym q.0

pub all_zero_one : OneAnswer 1 all_zero-kinds.ps all_zero-kinds.r all_zero-reads.Post
all_zero_one κs a x y s t p q = p ∙ sym q
