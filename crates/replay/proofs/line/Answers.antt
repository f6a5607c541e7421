-- The length that is answered lies within the line's room.
use mathlib.Core.Path.{sym}
use native.Mathlib.Omega.{arith}
use lib.Seq.{length-take-le}
use Rattle.lines.proofs.Laid.{laid_within}
use Rattle.replay.proofs.line.Goals as goal

pub slice_bounds-text-end : goal.slice_bounds-text-end
slice_bounds-text-end g c = omega (arith, laid_within _ _ _ _ (rw c.in-Some.is at c.record_line.ensures), c.record_line.auto.out)

pub slice_bounds-write_all-end : goal.slice_bounds-write_all-end
slice_bounds-write_all-end g c = sym (length-take-le _ _ (omega (arith, laid_within _ _ _ _ (rw c.in-Some.is at c.record_line.ensures), c.record_line.auto.out)))
