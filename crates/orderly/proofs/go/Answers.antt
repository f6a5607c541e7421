-- The loop over the log: each turn keeps `Judging`, and the way out is the judgement on the whole run.
use native.Mathlib.Omega.{arith}
use Rattle.orderly.proofs.Judging.{judging_on, judging_off}
use Rattle.orderly.proofs.go.Goals as goal

pub loop-next-smaller : goal.loop-next-smaller
loop-next-smaller c = let h = judging_on _ _ _ _ c.requires.0 (rw c.start-w.ensures c.requires.1) _ _ _ _ c.loop-next.invariant (λ i. omega (arith, c.shared_slice_known-1.given i)) _ _ _ _ _ c.onward.ensures _ c.in-Ok.is in omega (arith, h.0, h.1.going.inside)

pub loop-next-preserved : goal.loop-next-preserved
loop-next-preserved c = rw (c.stays-so.ensures, c.next_at.ensures) (judging_on _ _ _ _ c.requires.0 (rw c.start-w.ensures c.requires.1) _ _ _ _ c.loop-next.invariant (λ i. omega (arith, c.shared_slice_known-1.given i)) _ _ _ _ _ c.onward.ensures _ c.in-Ok.is).1

pub returns-in-Err : goal.returns-in-Err
returns-in-Err c = rw (c.closed.ensures, c.so_far.ensures) (rw c.start-w.ensures at (judging_off _ _ _ _ c.requires.0 (rw c.start-w.ensures c.requires.1) _ _ _ _ c.loop-next.invariant (λ i. omega (arith, c.shared_slice_known-1.given i)) _ _ _ _ _ c.onward.ensures _ c.in-Err.is))
