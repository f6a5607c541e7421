-- T7 for this crate: each public function's contract allows one answer, and one content of the lent memory.
use mathlib.Core.List.{List}
use mathlib.Core.Path.{ap, ◌∙◌, sym}
use Prim.Native.Nat.{ℕ}
use Rattle.part.specs.OneAnswer.{OneAnswer, OneEnd}
use Rattle.record_numbers.specs.Records.{CPut}
use Rattle.texts.specs.Text.{CLaid}
use Rattle.beside_face.specs.Beside.{CBlank}
use Rattle.beside_face.proofs.sleet_version.Reads as sleet-version-reads
use Rattle.beside_face.proofs.sleet_version.Kinds as sleet-version-kinds
use Rattle.beside_face.proofs.sleet_fm25s005bi3.Reads as sleet-fm25s005bi3-reads
use Rattle.beside_face.proofs.sleet_fm25s005bi3.Kinds as sleet-fm25s005bi3-kinds
use Rattle.beside_face.proofs.sleet_bench.Reads as sleet-bench-reads
use Rattle.beside_face.proofs.sleet_bench.Kinds as sleet-bench-kinds
use Rattle.beside_face.proofs.sleet_geometry_sound.Reads as sleet-geometry-sound-reads
use Rattle.beside_face.proofs.sleet_geometry_sound.Kinds as sleet-geometry-sound-kinds
use Rattle.beside_face.proofs.sleet_cells_length.Reads as sleet-cells-length-reads
use Rattle.beside_face.proofs.sleet_cells_length.Kinds as sleet-cells-length-kinds
use Rattle.beside_face.proofs.sleet_cache_length.Reads as sleet-cache-length-reads
use Rattle.beside_face.proofs.sleet_cache_length.Kinds as sleet-cache-length-kinds
use Rattle.beside_face.proofs.sleet_counts_length.Reads as sleet-counts-length-reads
use Rattle.beside_face.proofs.sleet_counts_length.Kinds as sleet-counts-length-kinds
use Rattle.beside_face.proofs.sleet_power_up.Reads as sleet-power-up-reads
use Rattle.beside_face.proofs.sleet_power_up.Kinds as sleet-power-up-kinds
use Rattle.beside_face.proofs.sleet_state_sound.Reads as sleet-state-sound-reads
use Rattle.beside_face.proofs.sleet_state_sound.Kinds as sleet-state-sound-kinds
use Rattle.beside_face.proofs.sleet_operation_length.Reads as sleet-operation-length-reads
use Rattle.beside_face.proofs.sleet_operation_length.Kinds as sleet-operation-length-kinds
use Rattle.beside_face.proofs.sleet_units_left.Reads as sleet-units-left-reads
use Rattle.beside_face.proofs.sleet_units_left.Kinds as sleet-units-left-kinds
use Rattle.beside_face.proofs.sleet_peek.Reads as sleet-peek-reads
use Rattle.beside_face.proofs.sleet_peek.Kinds as sleet-peek-kinds
use Rattle.beside_face.proofs.sleet_blank.Reads as sleet-blank-reads
use Rattle.beside_face.proofs.sleet_blank.Kinds as sleet-blank-kinds
use Rattle.beside_face.proofs.sleet_next.Reads as sleet-next-reads
use Rattle.beside_face.proofs.sleet_next.Kinds as sleet-next-kinds
use Rattle.beside_face.proofs.sleet_write.Reads as sleet-write-reads
use Rattle.beside_face.proofs.sleet_write.Kinds as sleet-write-kinds
use Rattle.beside_face.proofs.sleet_text.Reads as sleet-text-reads
use Rattle.beside_face.proofs.sleet_text.Kinds as sleet-text-kinds

-- cells, cache register and page counts
pub record Memory : Type 0 where
  pub cells : List ℕ
  pub cache : List ℕ
  pub counts : List ℕ

abbrev memory : List ℕ → List ℕ → List ℕ → Memory
memory cells cache counts = record { cells = cells; cache = cache; counts = counts }

pub sleet_version_one : OneAnswer 0 sleet-version-kinds.ps sleet-version-kinds.r sleet-version-reads.Post
sleet_version_one κs a x y s t p q = p ∙ sym q

pub sleet_fm25s005bi3_one : OneAnswer 0 sleet-fm25s005bi3-kinds.ps sleet-fm25s005bi3-kinds.r sleet-fm25s005bi3-reads.Post
sleet_fm25s005bi3_one κs a x y s t p q = p ∙ sym q

pub sleet_bench_one : OneAnswer 0 sleet-bench-kinds.ps sleet-bench-kinds.r sleet-bench-reads.Post
sleet_bench_one κs a x y s t p q = p ∙ sym q

pub sleet_geometry_sound_one : OneAnswer 0 sleet-geometry-sound-kinds.ps sleet-geometry-sound-kinds.r sleet-geometry-sound-reads.Post
sleet_geometry_sound_one κs a x y s t p q = p ∙ sym q

pub sleet_cells_length_one : OneAnswer 0 sleet-cells-length-kinds.ps sleet-cells-length-kinds.r sleet-cells-length-reads.Post
sleet_cells_length_one κs a x y s t p q = p ∙ sym q

pub sleet_cache_length_one : OneAnswer 0 sleet-cache-length-kinds.ps sleet-cache-length-kinds.r sleet-cache-length-reads.Post
sleet_cache_length_one κs a x y s t p q = p ∙ sym q

pub sleet_counts_length_one : OneAnswer 0 sleet-counts-length-kinds.ps sleet-counts-length-kinds.r sleet-counts-length-reads.Post
sleet_counts_length_one κs a x y s t p q = p ∙ sym q

pub sleet_power_up_one : OneAnswer 0 sleet-power-up-kinds.ps sleet-power-up-kinds.r sleet-power-up-reads.Post
sleet_power_up_one κs a x y s t p q = p ∙ sym q

pub sleet_state_sound_one : OneAnswer 0 sleet-state-sound-kinds.ps sleet-state-sound-kinds.r sleet-state-sound-reads.Post
sleet_state_sound_one κs a x y s t p q = p ∙ sym q

pub sleet_operation_length_one : OneAnswer 0 sleet-operation-length-kinds.ps sleet-operation-length-kinds.r sleet-operation-length-reads.Post
sleet_operation_length_one κs a x y s t p q = p ∙ sym q

pub sleet_units_left_one : OneAnswer 0 sleet-units-left-kinds.ps sleet-units-left-kinds.r sleet-units-left-reads.Post
sleet_units_left_one κs a x y s t p q = p ∙ sym q

pub sleet_peek_one : OneAnswer 1 sleet-peek-kinds.ps sleet-peek-kinds.r sleet-peek-reads.Post
sleet_peek_one κs a x y s t p q = p ∙ sym q

pub sleet_blank_one : OneEnd 3 sleet-blank-kinds.ps sleet-blank-kinds.r Memory (λ κs s. memory s.1.0.now s.1.1.0.now s.1.1.1.0.now) sleet-blank-reads.Post
sleet_blank_one κs a x y s t p q = (ap (λ (b : CBlank). b.refusal) (p ∙ sym q), ap (λ (b : CBlank). memory b.cells b.cache b.counts) (p ∙ sym q))

pub sleet_next_one : OneAnswer 1 sleet-next-kinds.ps sleet-next-kinds.r sleet-next-reads.Post
sleet_next_one κs a x y s t p q = p ∙ sym q

pub sleet_write_one : OneEnd 1 sleet-write-kinds.ps sleet-write-kinds.r (List ℕ) (λ κs s. s.1.0.now) sleet-write-reads.Post
sleet_write_one κs a x y s t p q = (ap (λ (w : CPut). w.answer) (p ∙ sym q), ap (λ (w : CPut). w.log) (p ∙ sym q))

pub sleet_text_one : OneEnd 1 sleet-text-kinds.ps sleet-text-kinds.r (List ℕ) (λ κs s. s.1.0.now) sleet-text-reads.Post
sleet_text_one κs a x y s t p q = (ap (λ (w : CLaid). w.count) (p ∙ sym q), ap (λ (w : CLaid). w.out) (p ∙ sym q))
