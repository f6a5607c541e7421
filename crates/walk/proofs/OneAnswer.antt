-- T7 for this crate: each public function's contract allows one answer, and one content of the lent memory.
use mathlib.Core.List.{List}
use mathlib.Core.Path.{ap, ap₂, ◌∙◌, sym}
use Prim.Native.Nat.{ℕ}
use Rattle.part.specs.OneAnswer.{OneAnswer, OneEnd}
use Rattle.device.specs.Machine.{Machine}
use Rattle.walk.specs.Turns.{Turned}
use Rattle.walk.proofs.Walk.start.Reads as start-reads
use Rattle.walk.proofs.Walk.start.Kinds as start-kinds
use Rattle.walk.proofs.Walk.so_far.Reads as so-far-reads
use Rattle.walk.proofs.Walk.so_far.Kinds as so-far-kinds
use Rattle.walk.proofs.room_of.Reads as room-of-reads
use Rattle.walk.proofs.room_of.Kinds as room-of-kinds
use Rattle.walk.proofs.turn.Reads as turn-reads
use Rattle.walk.proofs.turn.Kinds as turn-kinds
use Rattle.walk.proofs.onward.Reads as onward-reads
use Rattle.walk.proofs.onward.Kinds as onward-kinds

-- cells, cache register, page counts and output
pub record Lent : Type 0 where
  pub cells : List ℕ
  pub cache : List ℕ
  pub counts : List ℕ
  pub out : List ℕ

abbrev pub lent : List ℕ → List ℕ → List ℕ → List ℕ → Lent
lent cells cache counts out = record { cells = cells; cache = cache; counts = counts; out = out }

-- those of a machine, with the output beside it
abbrev lent_by : Machine → List ℕ → Lent
lent_by m out = lent m.store.cells m.store.cache m.counts out

pub start_one : OneAnswer 0 start-kinds.ps start-kinds.r start-reads.Post
start_one κs a x y s t p q = p ∙ sym q

pub so_far_one : OneAnswer 0 so-far-kinds.ps so-far-kinds.r so-far-reads.Post
so_far_one κs a x y s t p q = p ∙ sym q

pub room_of_one : OneAnswer 0 room-of-kinds.ps room-of-kinds.r room-of-reads.Post
room_of_one κs a x y s t p q = p ∙ sym q

pub onward_one : OneEnd 5 onward-kinds.ps onward-kinds.r Lent (λ κs s. lent s.1.1.1.0.now s.1.1.1.1.0.now s.1.1.1.1.1.0.now s.1.1.1.1.1.1.0.now) onward-reads.Post
onward_one κs a x y s t p q = (ap (λ (u : Turned). u.went) (p ∙ sym q), ap (λ (u : Turned). lent_by u.machine u.out) (p ∙ sym q))

pub turn_one : OneEnd 4 turn-kinds.ps turn-kinds.r Lent (λ κs s. lent s.1.1.1.1.0.now s.1.1.1.1.1.0.now s.1.1.1.1.1.1.0.now s.1.1.1.1.1.1.1.0.now) turn-reads.Post
turn_one κs a x y s t p q = (ap (λ (m : Machine). m.state) (p.0 ∙ sym q.0), ap₂ lent_by (p.0 ∙ sym q.0) (p.1 ∙ sym q.1))
