-- T7 for this crate: each public function's contract allows one answer.
use mathlib.Core.Path.{◌∙◌, sym}
use Rattle.part.specs.OneAnswer.{OneAnswer}
use Rattle.suppositions.proofs.idle.Reads as idle-reads
use Rattle.suppositions.proofs.idle.Kinds as idle-kinds
use Rattle.suppositions.proofs.allowed.Reads as allowed-reads
use Rattle.suppositions.proofs.allowed.Kinds as allowed-kinds
use Rattle.suppositions.proofs.starts.Reads as starts-reads
use Rattle.suppositions.proofs.starts.Kinds as starts-kinds

pub idle_one : OneAnswer 0 idle-kinds.ps idle-kinds.r idle-reads.Post
idle_one κs a x y s t p q = p ∙ sym q

pub allowed_one : OneAnswer 0 allowed-kinds.ps allowed-kinds.r allowed-reads.Post
allowed_one κs a x y s t p q = p ∙ sym q

pub starts_one : OneAnswer 0 starts-kinds.ps starts-kinds.r starts-reads.Post
starts_one κs a x y s t p q = p ∙ sym q
