-- T7 for this crate: each public function's contract allows one answer.
use mathlib.Core.Path.{◌∙◌, sym}
use Rattle.part.specs.OneAnswer.{OneAnswer}
use Rattle.part.proofs.Geometry.page.Reads as page-reads
use Rattle.part.proofs.Geometry.page.Kinds as page-kinds
use Rattle.part.proofs.Geometry.rows.Reads as rows-reads
use Rattle.part.proofs.Geometry.rows.Kinds as rows_kinds
use Rattle.part.proofs.Geometry.sound.Reads as sound-reads
use Rattle.part.proofs.Geometry.sound.Kinds as sound-kinds
use Rattle.part.proofs.Geometry.block.Reads as block_reads
use Rattle.part.proofs.Geometry.block.Kinds as block-kinds
use Rattle.part.proofs.place.Reads as place-reads
use Rattle.part.proofs.place.Kinds as place-kinds
use Rattle.part.proofs.protected.Reads as protected-reads
use Rattle.part.proofs.protected.Kinds as protected-kinds
use Rattle.part.proofs.Fm25s005bi3.geometry.Reads as fm25s005bi3-reads
use Rattle.part.proofs.Fm25s005bi3.geometry.Kinds as fm25s005bi3-kinds
use Rattle.part.proofs.Bench.geometry.Reads as bench-reads
use Rattle.part.proofs.Bench.geometry.Kinds as bench-kinds

pub page_one : OneAnswer 0 page-kinds.ps page-kinds.r page-reads.Post
page_one κs a x y s t p q = p ∙ sym q

pub rows_one : OneAnswer 0 rows_kinds.ps rows_kinds.r rows-reads.Post
rows_one κs a x y s t p q = p ∙ sym q

pub sound_one : OneAnswer 0 sound-kinds.ps sound-kinds.r sound-reads.Post
sound_one κs a x y s t p q = p ∙ sym q

pub block_one : OneAnswer 0 block-kinds.ps block-kinds.r block_reads.Post
block_one κs a x y s t p q = p ∙ sym q

pub place_one : OneAnswer 0 place-kinds.ps place-kinds.r place-reads.Post
place_one κs a x y s t p q = p ∙ sym q

pub protected_one : OneAnswer 0 protected-kinds.ps protected-kinds.r protected-reads.Post
protected_one κs a x y s t p q = p ∙ sym q

pub fm25s005bi3_one : OneAnswer 0 fm25s005bi3-kinds.ps fm25s005bi3-kinds.r fm25s005bi3-reads.Post
fm25s005bi3_one κs a x y s t p q = p ∙ sym q

pub bench_one : OneAnswer 0 bench-kinds.ps bench-kinds.r bench-reads.Post
bench_one κs a x y s t p q = p ∙ sym q
