-- T7 for this crate: each public function's contract allows one answer, and one content of the lent memory.
use mathlib.Core.List.{List}
use mathlib.Core.Path.{◌∙◌, sym, refl}
use Prim.Native.Nat.{ℕ}
use Rattle.part.specs.OneAnswer.{OneAnswer, OneEnd}
use Rattle.transfer.proofs.Bus.heard.Reads as heard-reads
use Rattle.transfer.proofs.Bus.heard.Kinds as heard-kinds
use Rattle.transfer.proofs.Transfer.fresh.Reads as fresh-reads
use Rattle.transfer.proofs.Transfer.fresh.Kinds as fresh-kinds
use Rattle.transfer.proofs.Transfer.is.Reads as is-reads
use Rattle.transfer.proofs.Transfer.is.Kinds as is-kinds
use Rattle.transfer.proofs.Transfer.full.Reads as full-reads
use Rattle.transfer.proofs.Transfer.full.Kinds as full-kinds
use Rattle.transfer.proofs.Transfer.row.Reads as row_reads
use Rattle.transfer.proofs.Transfer.row.Kinds as row-kinds
use Rattle.transfer.proofs.Bus.selects.Reads as selects-reads
use Rattle.transfer.proofs.Bus.selects.Kinds as selects-kinds
use Rattle.transfer.proofs.Bus.ends.Reads as ends-reads
use Rattle.transfer.proofs.Bus.ends.Kinds as ends-kinds
use Rattle.transfer.proofs.Bus.shifted_in.Reads as shifted-in-reads
use Rattle.transfer.proofs.Bus.shifted_in.Kinds as shifted-in-kinds
use Rattle.transfer.proofs.Bus.body_heard.Reads as body-heard-reads
use Rattle.transfer.proofs.Bus.body_heard.Kinds as body-heard-kinds
use Rattle.transfer.proofs.Bus.caches.Reads as caches-reads
use Rattle.transfer.proofs.Bus.caches.Kinds as caches-kinds

pub heard_one : OneAnswer 0 heard-kinds.ps heard-kinds.r heard-reads.Post
heard_one κs a x y s t p q = p ∙ sym q

pub fresh_one : OneAnswer 0 fresh-kinds.ps fresh-kinds.r fresh-reads.Post
fresh_one κs a x y s t p q = p ∙ sym q

pub is_one : OneAnswer 0 is-kinds.ps is-kinds.r is-reads.Post
is_one κs a x y s t p q = p ∙ sym q

pub full_one : OneAnswer 0 full-kinds.ps full-kinds.r full-reads.Post
full_one κs a x y s t p q = p ∙ sym q

pub row_one : OneAnswer 0 row-kinds.ps row-kinds.r row_reads.Post
row_one κs a x y s t p q = p ∙ sym q

pub selects_one : OneAnswer 0 selects-kinds.ps selects-kinds.r selects-reads.Post
selects_one κs a x y s t p q = p ∙ sym q

pub ends_one : OneAnswer 0 ends-kinds.ps ends-kinds.r ends-reads.Post
ends_one κs a x y s t p q = p ∙ sym q

pub shifted_in_one : OneAnswer 0 shifted-in-kinds.ps shifted-in-kinds.r shifted-in-reads.Post
shifted_in_one κs a x y s t p q = p ∙ sym q

pub body_heard_one : OneAnswer 0 body-heard-kinds.ps body-heard-kinds.r body-heard-reads.Post
body_heard_one κs a x y s t p q = p ∙ sym q

pub caches_one : OneEnd 1 caches-kinds.ps caches-kinds.r (List ℕ) (λ κs s. s.1.1.1.0.now) caches-reads.Post
caches_one κs a x y s t p q = (refl, p ∙ sym q)
