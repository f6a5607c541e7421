-- From the last place down: the digits that are left, and what stands behind them, are the text.
use mathlib.Core.Path.{◌≡◌, refl, ◌∙◌}
use native.Mathlib.Omega.{arith}
use lib.ListN.{length-set}
use Rattle.lines.specs.Lines.{digits}
use Rattle.lines.proofs.Texts.{digits_more}
use Rattle.lines.proofs.store_number.Goals as goal

pub loop-i-preserved : goal.loop-i-preserved
loop-i-preserved c =
    let l = c.loop-i in
    (simp length-set (omega arith), simp length-set (simp length-set at l.invariant.1), digits_more l.i l.rest _ l.out (omega arith) l.invariant.0 refl ∙ l.invariant.2)

pub returns : goal.returns
unfolding digits
returns c =
    let l = c.loop-i in
    let z : l.i ≡ 0 = omega arith in
    simp length-set at (rw z at l.invariant.2)
