-- `mend_all`: one sector after another.
use mathlib.Core.Path.{◌≡◌}
use Prim.Native.Nat.{max}
use native.Mathlib.Omega.{arith}
use borrow.Author.Rules.{rules}
use Rattle.ecc.proofs.Mending.{mended_one, mended_all}
use Rattle.ecc.proofs.mend_all.Goals as goal

pub loop-j-preserved : goal.loop-j-preserved
loop-j-preserved c =
    let most : c.max-most.result ≡ max c.loop-j.most c.mend_sector.result = search rules in
    mended_one c.loop-j.invariant (rw (← c.sectors-count.ensures) c.loop-j-test.true) (search rules) c.mend_sector.ensures.1
    (rw (← c.mend_sector.ensures.0) most)

pub returns : goal.returns
returns c =
    let e = mended_all c.loop-j.invariant (omega (arith, c.sectors-count.ensures)) in
    (rw (← e.0) c.eccs.ensures, e.1)
