-- T7 for this crate: each public function's contract allows one answer, and one content of the lent memory.
use mathlib.Core.List.{List}
use mathlib.Core.Path.{ap, ◌∙◌, sym}
use Prim.Native.Nat.{ℕ}
use Rattle.part.specs.OneAnswer.{OneEnd}
use Rattle.face.specs.declared.CJudged.{CJudged}
use Rattle.sleetanvil.specs.Runs.{CEnd, CQuiet, CJudgement}
use Rattle.sleetanvil.proofs.sleet_run.Reads as sleet-run-reads
use Rattle.sleetanvil.proofs.sleet_run.Kinds as sleet-run-kinds
use Rattle.sleetanvil.proofs.sleet_judge.Reads as sleet-judge-reads
use Rattle.sleetanvil.proofs.sleet_judge.Kinds as sleet-judge-kinds
use Rattle.sleetanvil.proofs.sleet_transfer.Reads as sleet-transfer-reads
use Rattle.sleetanvil.proofs.sleet_transfer.Kinds as sleet-transfer-kinds
use Rattle.sleetanvil.proofs.sleet_shifts.Reads as sleet-shifts-reads
use Rattle.sleetanvil.proofs.sleet_shifts.Kinds as sleet-shifts-kinds
use Rattle.sleetanvil.proofs.sleet_shift.Reads as sleet-shift-reads
use Rattle.sleetanvil.proofs.sleet_shift.Kinds as sleet-shift-kinds
use Rattle.sleetanvil.proofs.sleet_select.Reads as sleet-select-reads
use Rattle.sleetanvil.proofs.sleet_select.Kinds as sleet-select-kinds
use Rattle.sleetanvil.proofs.sleet_deselect.Reads as sleet-deselect-reads
use Rattle.sleetanvil.proofs.sleet_deselect.Kinds as sleet-deselect-kinds
use Rattle.sleetanvil.proofs.sleet_work.Reads as sleet-work-reads
use Rattle.sleetanvil.proofs.sleet_work.Kinds as sleet-work-kinds
use Rattle.sleetanvil.proofs.sleet_level.Reads as sleet-level-reads
use Rattle.sleetanvil.proofs.sleet_level.Kinds as sleet-level-kinds
use Rattle.sleetanvil.proofs.sleet_power.Reads as sleet-power-reads
use Rattle.sleetanvil.proofs.sleet_power.Kinds as sleet-power-kinds

-- cells, cache register and page counts
pub record Memory : Type 0 where
  pub cells : List ℕ
  pub cache : List ℕ
  pub counts : List ℕ

abbrev memory : List ℕ → List ℕ → List ℕ → Memory
memory cells cache counts = record { cells = cells; cache = cache; counts = counts }

-- and the output
pub record Lent : Type 0 where
  pub memory : Memory
  pub out : List ℕ

abbrev lent : List ℕ → List ℕ → List ℕ → List ℕ → Lent
lent cells cache counts out = record { memory = memory cells cache counts; out = out }

pub sleet_run_one : OneEnd 5 sleet-run-kinds.ps sleet-run-kinds.r Lent (λ κs s. lent s.1.1.1.0.now s.1.1.1.1.0.now s.1.1.1.1.1.0.now s.1.1.1.1.1.1.0.now) sleet-run-reads.Post
sleet_run_one κs a x y s t p q = (ap (λ (e : CEnd). e.answer) (p ∙ sym q), ap (λ (e : CEnd). lent e.cells e.cache e.counts e.out) (p ∙ sym q))

abbrev judged_by : CJudgement → CJudged
judged_by j = record { answer = j.end.answer; orderly = j.orderly }

pub sleet_judge_one : OneEnd 5 sleet-judge-kinds.ps sleet-judge-kinds.r Lent (λ κs s. lent s.1.1.1.0.now s.1.1.1.1.0.now s.1.1.1.1.1.0.now s.1.1.1.1.1.1.0.now) sleet-judge-reads.Post
sleet_judge_one κs a x y s t p q = (ap judged_by (p ∙ sym q), ap (λ (j : CJudgement). lent j.end.cells j.end.cache j.end.counts j.end.out) (p ∙ sym q))

pub sleet_transfer_one : OneEnd 5 sleet-transfer-kinds.ps sleet-transfer-kinds.r Lent (λ κs s. lent s.1.1.1.0.now s.1.1.1.1.0.now s.1.1.1.1.1.0.now s.1.1.1.1.1.1.0.now) sleet-transfer-reads.Post
sleet_transfer_one κs a x y s t p q = (ap (λ (e : CEnd). e.answer) (p ∙ sym q), ap (λ (e : CEnd). lent e.cells e.cache e.counts e.out) (p ∙ sym q))

pub sleet_shifts_one : OneEnd 5 sleet-shifts-kinds.ps sleet-shifts-kinds.r Lent (λ κs s. lent s.1.1.1.0.now s.1.1.1.1.0.now s.1.1.1.1.1.0.now s.1.1.1.1.1.1.0.now) sleet-shifts-reads.Post
sleet_shifts_one κs a x y s t p q = (ap (λ (e : CEnd). e.answer) (p ∙ sym q), ap (λ (e : CEnd). lent e.cells e.cache e.counts e.out) (p ∙ sym q))

pub sleet_shift_one : OneEnd 4 sleet-shift-kinds.ps sleet-shift-kinds.r Lent (λ κs s. lent s.1.1.1.0.now s.1.1.1.1.0.now s.1.1.1.1.1.0.now s.1.1.1.1.1.1.0.now) sleet-shift-reads.Post
sleet_shift_one κs a x y s t p q = (ap (λ (e : CEnd). e.answer) (p ∙ sym q), ap (λ (e : CEnd). lent e.cells e.cache e.counts e.out) (p ∙ sym q))

pub sleet_select_one : OneEnd 3 sleet-select-kinds.ps sleet-select-kinds.r Memory (λ κs s. memory s.1.1.0.now s.1.1.1.0.now s.1.1.1.1.0.now) sleet-select-reads.Post
sleet_select_one κs a x y s t p q = (ap (λ (e : CQuiet). e.answer) (p ∙ sym q), ap (λ (e : CQuiet). memory e.cells e.cache e.counts) (p ∙ sym q))

pub sleet_deselect_one : OneEnd 3 sleet-deselect-kinds.ps sleet-deselect-kinds.r Memory (λ κs s. memory s.1.1.0.now s.1.1.1.0.now s.1.1.1.1.0.now) sleet-deselect-reads.Post
sleet_deselect_one κs a x y s t p q = (ap (λ (e : CQuiet). e.answer) (p ∙ sym q), ap (λ (e : CQuiet). memory e.cells e.cache e.counts) (p ∙ sym q))

pub sleet_work_one : OneEnd 3 sleet-work-kinds.ps sleet-work-kinds.r Memory (λ κs s. memory s.1.1.1.0.now s.1.1.1.1.0.now s.1.1.1.1.1.0.now) sleet-work-reads.Post
sleet_work_one κs a x y s t p q = (ap (λ (e : CQuiet). e.answer) (p ∙ sym q), ap (λ (e : CQuiet). memory e.cells e.cache e.counts) (p ∙ sym q))

pub sleet_level_one : OneEnd 3 sleet-level-kinds.ps sleet-level-kinds.r Memory (λ κs s. memory s.1.1.1.0.now s.1.1.1.1.0.now s.1.1.1.1.1.0.now) sleet-level-reads.Post
sleet_level_one κs a x y s t p q = (ap (λ (e : CQuiet). e.answer) (p ∙ sym q), ap (λ (e : CQuiet). memory e.cells e.cache e.counts) (p ∙ sym q))

pub sleet_power_one : OneEnd 3 sleet-power-kinds.ps sleet-power-kinds.r Memory (λ κs s. memory s.1.1.0.now s.1.1.1.0.now s.1.1.1.1.0.now) sleet-power-reads.Post
sleet_power_one κs a x y s t p q = (ap (λ (e : CQuiet). e.answer) (p ∙ sym q), ap (λ (e : CQuiet). memory e.cells e.cache e.counts) (p ∙ sym q))
