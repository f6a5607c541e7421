-- The loop over the log: each turn keeps `Going`, and the way out is the end of the whole run.
use native.Mathlib.Omega.{arith}
use Rattle.slot.proofs.Loop.{going_on, going_off}
use Rattle.slot.proofs.go.Goals as goal

pub loop-next-smaller : goal.loop-next-smaller
loop-next-smaller c = let h = going_on _ _ _ _ _ _ c.loop-next.invariant _ _ _ _ c.onward.ensures _ c.in-Ok.is in omega (arith, h.0, h.1.inside)

pub loop-next-preserved : goal.loop-next-preserved
loop-next-preserved c = (going_on _ _ _ _ _ _ c.loop-next.invariant _ _ _ _ c.onward.ensures _ c.in-Ok.is).1

pub returns-in-Err : goal.returns-in-Err
returns-in-Err c = rw c.so_far.ensures (rw c.start-w.ensures at (going_off _ _ _ _ _ _ c.loop-next.invariant _ _ _ _ c.onward.ensures _ c.in-Err.is))
