-- T7 for this crate: each public function's contract allows one answer, and one content of the lent memory.
use mathlib.Core.List.{List, []}
use mathlib.Core.Path.{◌∙◌, sym, ap, ap₂}
use Prim.Native.Nat.{ℕ}
use Rattle.array.specs.Jobs.{Store, store}
use Rattle.device.specs.Machine.{Machine, machine}
use Rattle.device.specs.declared.State.{State}
use Rattle.device.specs.declared.Shifted.{Shifted}
use Rattle.part.specs.OneAnswer.{OneAnswer, OneEnd}
use Rattle.device.proofs.State.power_up.Reads as power-up-reads
use Rattle.device.proofs.State.power_up.Kinds as power-up-kinds
use Rattle.device.proofs.State.select.Reads as select-reads
use Rattle.device.proofs.State.select.Kinds as select-kinds
use Rattle.device.proofs.State.level.Reads as level-reads
use Rattle.device.proofs.State.level.Kinds as level-kinds
use Rattle.device.proofs.State.sound.Reads as sound-reads
use Rattle.device.proofs.State.sound.Kinds as sound-kinds
use Rattle.device.proofs.State.shift.Reads as shift-reads
use Rattle.device.proofs.State.shift.Kinds as shift_kinds
use Rattle.device.proofs.State.deselect.Reads as deselect-reads
use Rattle.device.proofs.State.deselect.Kinds as deselect-kinds
use Rattle.device.proofs.State.power.Reads as power-reads
use Rattle.device.proofs.State.power.Kinds as power-kinds
use Rattle.device.proofs.State.work.Reads as work-reads
use Rattle.device.proofs.State.work.Kinds as work-kinds

-- a state and a byte out, together
abbrev shifted : State → ℕ → Shifted
shifted s b = record { state = s; out = b }

-- some machine, for what is said of every one
abbrev some : State → Machine
some s = machine s [] [] []

pub power_up_one : OneAnswer 0 power-up-kinds.ps power-up-kinds.r power-up-reads.Post
power_up_one κs a x y s t p q = p ∙ sym q

pub select_one : OneAnswer 0 select-kinds.ps select-kinds.r select-reads.Post
select_one κs a x y s t p q = p ∙ sym q

pub level_one : OneAnswer 0 level-kinds.ps level-kinds.r level-reads.Post
level_one κs a x y s t p q = p ∙ sym q

pub sound_one : OneAnswer 0 sound-kinds.ps sound-kinds.r sound-reads.Post
sound_one κs a x y s t p q = p ∙ sym q

pub shift_one : OneEnd 1 shift_kinds.ps shift_kinds.r (List ℕ) (λ κs s. s.1.1.1.0.now) shift-reads.Post
shift_one κs a x y s t p q = (ap₂ shifted (ap (λ (m : Machine). m.state) (p.0 (some a.0) ∙ sym (q.0 (some a.0)))) (p.1 ∙ sym q.1), ap (λ (m : Machine). m.store.cache) (p.0 (some a.0) ∙ sym (q.0 (some a.0))))

pub deselect_one : OneEnd 1 deselect-kinds.ps deselect-kinds.r (List ℕ) (λ κs s. s.1.1.0.now) deselect-reads.Post
deselect_one κs a x y s t p q = (ap (λ (m : Machine). m.state) (p (some a.0) ∙ sym (q (some a.0))), ap (λ (m : Machine). m.counts) (p (some a.0) ∙ sym (q (some a.0))))

pub power_one : OneEnd 1 power-kinds.ps power-kinds.r (List ℕ) (λ κs s. s.1.1.0.now) power-reads.Post
power_one κs a x y s t p q = (ap (λ (m : Machine). m.state) (p (some a.0) ∙ sym (q (some a.0))), ap (λ (m : Machine). m.store.cache) (p (some a.0) ∙ sym (q (some a.0))))

pub work_one : OneEnd 2 work-kinds.ps work-kinds.r Store (λ κs s. store s.1.1.1.0.now s.1.1.1.1.0.now) work-reads.Post
work_one κs a x y s t p q = (ap (λ (m : Machine). m.state) (p (some a.0) ∙ sym (q (some a.0))), ap (λ (m : Machine). m.store) (p (some a.0) ∙ sym (q (some a.0))))
