-- T7 for this crate: each public function's contract allows one answer.
use mathlib.Core.Path.{◌∙◌, sym}
use Rattle.part.specs.OneAnswer.{OneAnswer}
use Rattle.part_numbers.proofs.part_of.Reads as part-of-reads
use Rattle.part_numbers.proofs.part_of.Kinds as part-of-kinds
use Rattle.part_numbers.proofs.face_part.Reads as face-part-reads
use Rattle.part_numbers.proofs.face_part.Kinds as face-part-kinds
use Rattle.part_numbers.proofs.cells_length.Reads as cells-length-reads
use Rattle.part_numbers.proofs.cells_length.Kinds as cells-length-kinds
use Rattle.part_numbers.proofs.cache_length.Reads as cache-length-reads
use Rattle.part_numbers.proofs.cache_length.Kinds as cache-length-kinds
use Rattle.part_numbers.proofs.counts_length.Reads as counts-length-reads
use Rattle.part_numbers.proofs.counts_length.Kinds as counts-length-kinds

pub part_of_one : OneAnswer 0 part-of-kinds.ps part-of-kinds.r part-of-reads.Post
part_of_one κs a x y s t p q = p ∙ sym q

pub face_part_one : OneAnswer 0 face-part-kinds.ps face-part-kinds.r face-part-reads.Post
face_part_one κs a x y s t p q = p ∙ sym q

pub cells_length_one : OneAnswer 0 cells-length-kinds.ps cells-length-kinds.r cells-length-reads.Post
cells_length_one κs a x y s t p q = p ∙ sym q

pub cache_length_one : OneAnswer 0 cache-length-kinds.ps cache-length-kinds.r cache-length-reads.Post
cache_length_one κs a x y s t p q = p ∙ sym q

pub counts_length_one : OneAnswer 0 counts-length-kinds.ps counts-length-kinds.r counts-length-reads.Post
counts_length_one κs a x y s t p q = p ∙ sym q
