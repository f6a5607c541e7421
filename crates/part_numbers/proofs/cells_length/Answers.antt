-- The length of a sound part, which fits, and 0 for one that is not.
use mathlib.Core.Path.{sym, ◌∙◌}
use native.Mathlib.Omega.{arith}
use native.Mathlib.Nat.{mul-le-mul}
use Rattle.part.specs.Part.{Sound}
use Rattle.part.proofs.Choice.{true_T}
use Rattle.part.proofs.Laws.{sound_exactly}
use Rattle.part_numbers.proofs.cells_length.Goals as goal

pub overflow_mul-result : goal.overflow_mul-result
overflow_mul-result c =
    let s : Sound c.part_of-g.result = (sound_exactly c.part_of-g.result).0 (true_T _ (sym c.sound.ensures ∙ c.if-sound.true)) in
    rw (c.rows.ensures, c.page.ensures) (omega (arith, mul-le-mul s.few_rows s.small_page))
