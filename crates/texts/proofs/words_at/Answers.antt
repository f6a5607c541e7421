-- From each byte on the rows are those that are left.
use mathlib.Core.Bool.{false, not, ◌&&◌}
use mathlib.Core.Path.{◌≡◌, ◌∙◌}
use lib.Dec.{eqb}
use lib.ListN.{get_or}
use native.Mathlib.Omega.{arith}
use Rattle.std.proofs.Common.{rules}
use Rattle.texts.proofs.Scans.{missed}
use Rattle.texts.proofs.words_at.Goals as goal
use Rattle.texts.proofs.words_at.Goals.{else-not-inside-via-then-not-inside+else-n-b, else-not-inside-via-else-not-inside, then-inside, else-inside}

pub loop-i-preserved : goal.loop-i-preserved
loop-i-preserved c =
    let l = c.loop-i in
    let b = get_or c.args.table.now l.i 0 in
    let passed : not c.loop-i.inside && eqb c.args.n (get_or c.args.table.now c.loop-i.i 0) ≡ false =
    elim c.else-not-inside.branch [ else-not-inside-via-then-not-inside+else-n-b w ↦ search rules | else-not-inside-via-else-not-inside w ↦ search rules ] in
    let next : c.if-inside.inside ≡ c.loop-i.inside && eqb (get_or c.args.table.now c.loop-i.i 0) 0 =
    elim c.if-inside.branch [ then-inside w ↦ search rules | else-inside w ↦ search rules ] in
    rw next (missed _ _ _ l.i l.inside (omega arith) passed ∙ l.invariant)
