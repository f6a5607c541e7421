-- The place stays within the log and goes on with each record; no more records are done than bytes are passed.
use native.Mathlib.Omega.{arith}
use Rattle.replay.proofs.Places.{met_further}
use Rattle.replay.proofs.replay.Goals as goal

pub slice_bounds-run-count-in-Ok : goal.slice_bounds-run-count-in-Ok
slice_bounds-run-count-in-Ok g c = omega (arith, met_further _ _ c.records.invariant.0 c.meet-met.ensures c.in-Ok.is)

pub slice_bounds-run-start-in-Ok : goal.slice_bounds-run-start-in-Ok
slice_bounds-run-start-in-Ok g c = omega (arith, met_further _ _ c.records.invariant.0 c.meet-met.ensures c.in-Ok.is)

pub slice_bounds-run-end-in-Ok : goal.slice_bounds-run-end-in-Ok
slice_bounds-run-end-in-Ok g c = omega (arith, met_further _ _ c.records.invariant.0 c.meet-met.ensures c.in-Ok.is)

pub records-smaller : goal.records-smaller
records-smaller g c = omega (arith, met_further _ _ c.records.invariant.0 c.meet-met.ensures c.in-Ok.is)

pub records-preserved : goal.records-preserved
records-preserved g c =
    let f = met_further _ _ c.records.invariant.0 c.meet-met.ensures c.in-Ok.is in
    (f.1, omega (arith, f.0, c.records.invariant.1))
