-- The checks 1 to 5, one test after another.
use native.Mathlib.Omega.{arith}
use native.Mathlib.Nat.{mul-le-mul}
use mathlib.Core.Path.{sym, ◌∙◌}
use borrow.Author.Tests.{not-true, not-false, eq-eqb, ne_eqb}
use Rattle.part.specs.Part.{Sound}
use Rattle.part.proofs.Laws.{sound_exactly}
use Rattle.part.proofs.Choice.{true_T}
use Rattle.refusals.specs.Refusals.{check_of}
use Rattle.refusals.proofs.check.Goals as goal

pub returns-then-not-sound : goal.returns-then-not-sound
unfolding check_of
returns-then-not-sound c = rw (← c.sound.ensures, not-true c.sound.result c.if-not-sound.true-raw)

pub overflow_mul-rows : goal.overflow_mul-rows
overflow_mul-rows c =
    let s : Sound c.args.g = (sound_exactly c.args.g).0 (true_T _ (sym c.sound.ensures ∙ not-false c.sound.result c.if-not-sound.false-raw)) in
    rw (c.rows.ensures, c.page.ensures) (omega (arith, mul-le-mul s.few_rows s.small_page))

pub returns-then-cells-rows : goal.returns-then-cells-rows
unfolding check_of
returns-then-cells-rows c = rw (← c.sound.ensures, not-false c.sound.result c.if-not-sound.false-raw, ← c.rows.ensures, ← c.page.ensures, ne_eqb _ _ c.if-cells-rows.true)

pub returns-then-cache-page : goal.returns-then-cache-page
unfolding check_of
returns-then-cache-page c = rw (← c.sound.ensures, not-false c.sound.result c.if-not-sound.false-raw, eq-eqb _ _ (rw (c.rows.ensures, c.page.ensures) at c.if-cells-rows.false), ne_eqb _ _ (rw c.page-2.ensures at c.if-cache-page.true))

pub returns-then-counts-rows : goal.returns-then-counts-rows
unfolding check_of
returns-then-counts-rows c = rw (← c.sound.ensures, not-false c.sound.result c.if-not-sound.false-raw, eq-eqb _ _ (rw (c.rows.ensures, c.page.ensures) at c.if-cells-rows.false), eq-eqb _ _ (rw c.page-2.ensures at c.if-cache-page.false), ne_eqb _ _ (rw c.rows-2.ensures at c.if-counts-rows.true))

pub returns-then-not-sound-2 : goal.returns-then-not-sound-2
unfolding check_of
returns-then-not-sound-2 c = rw (← c.sound.ensures, not-false c.sound.result c.if-not-sound.false-raw, eq-eqb _ _ (rw (c.rows.ensures, c.page.ensures) at c.if-cells-rows.false), eq-eqb _ _ (rw c.page-2.ensures at c.if-cache-page.false), eq-eqb _ _ (rw c.rows-2.ensures at c.if-counts-rows.false), ← c.sound-2.ensures, not-true c.sound-2.result c.if-not-sound-2.true-raw)

pub returns : goal.returns
unfolding check_of
returns c = rw (← c.sound.ensures, not-false c.sound.result c.if-not-sound.false-raw, eq-eqb _ _ (rw (c.rows.ensures, c.page.ensures) at c.if-cells-rows.false), eq-eqb _ _ (rw c.page-2.ensures at c.if-cache-page.false), eq-eqb _ _ (rw c.rows-2.ensures at c.if-counts-rows.false), ← c.sound-2.ensures, not-false c.sound-2.result c.if-not-sound-2.false-raw)
