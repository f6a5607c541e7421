-- The loop over the log: each turn and the stream behind it keep `Going`, and each way out is the end of the whole run.
use mathlib.Core.Path.{sym, ◌∙◌}
use native.Mathlib.Omega.{arith}
use Rattle.kept.proofs.Steps.{step_keeps}
use Rattle.model.proofs.Loop.{going_ends, going_full, out_long}
use Rattle.quick.specs.Along.{walk_at}
use Rattle.quick.proofs.Behind.{going_turn, going_along}
use Rattle.quick.proofs.go.Goals as goal

pub returns-in-Err : goal.returns-in-Err
returns-in-Err c = rw (c.so_far.ensures, c.from.ensures) (going_ends _ _ _ _ _ (walk_at c.loop-why.s c.loop-why.at c.loop-why.records c.loop-why.written) _ _ c.loop-why.invariant _ (sym c.next_at.ensures ∙ c.in-Err.is))

pub returns-then-out-written : goal.returns-then-out-written
returns-then-out-written c = rw c.so_far-then-out-written.ensures (going_full _ _ _ _ _ (walk_at c.loop-why.s c.loop-why.at c.loop-why.records c.loop-why.written) _ _ c.loop-why.invariant _ _ (sym c.next_at.ensures ∙ c.in-Ok.is) (omega (arith, c.if-out-written.true, c.room_of-room.ensures, out_long _ _ _ _ _ (walk_at c.loop-why.s c.loop-why.at c.loop-why.records c.loop-why.written) _ _ c.loop-why.invariant)))

pub loop-why-smaller-then-not-streams : goal.loop-why-smaller-then-not-streams
loop-why-smaller-then-not-streams c = let h = going_turn _ _ _ _ _ (step_keeps _ c.requires.0) (λ i. omega (arith, c.shared_slice_known-1.given i)) (walk_at c.loop-why.s c.loop-why.at c.loop-why.records c.loop-why.written) _ _ c.loop-why.invariant _ _ _ (sym c.next_at.ensures ∙ c.in-Ok.is) c.room_of-room.ensures (omega (arith, c.if-out-written.false)) _ _ _ _ _ c.turn-s.ensures.0 c.turn-s.ensures.1 in omega (arith, h.0, h.1.inside)

pub loop-why-preserved-then-not-streams : goal.loop-why-preserved-then-not-streams
loop-why-preserved-then-not-streams c = (going_turn _ _ _ _ _ (step_keeps _ c.requires.0) (λ i. omega (arith, c.shared_slice_known-1.given i)) (walk_at c.loop-why.s c.loop-why.at c.loop-why.records c.loop-why.written) _ _ c.loop-why.invariant _ _ _ (sym c.next_at.ensures ∙ c.in-Ok.is) c.room_of-room.ensures (omega (arith, c.if-out-written.false)) _ _ _ _ _ c.turn-s.ensures.0 c.turn-s.ensures.1).1

pub overflow_mul-at : goal.overflow_mul-at
overflow_mul-at c = let h = going_along _ _ _ _ _ (step_keeps _ c.requires.0) (λ i. omega (arith, c.shared_slice_known-1.given i)) _ _ _ _ _ _ _ _ c.shifts-b.ensures (going_turn _ _ _ _ _ (step_keeps _ c.requires.0) (λ i. omega (arith, c.shared_slice_known-1.given i)) (walk_at c.loop-why.s c.loop-why.at c.loop-why.records c.loop-why.written) _ _ c.loop-why.invariant _ _ _ (sym c.next_at.ensures ∙ c.in-Ok.is) c.room_of-room.ensures (omega (arith, c.if-out-written.false)) _ _ _ _ _ c.turn-s.ensures.0 c.turn-s.ensures.1).1 in omega (arith, h.inside, c.well_formed)

pub overflow_add-at : goal.overflow_add-at
overflow_add-at c = let h = going_along _ _ _ _ _ (step_keeps _ c.requires.0) (λ i. omega (arith, c.shared_slice_known-1.given i)) _ _ _ _ _ _ _ _ c.shifts-b.ensures (going_turn _ _ _ _ _ (step_keeps _ c.requires.0) (λ i. omega (arith, c.shared_slice_known-1.given i)) (walk_at c.loop-why.s c.loop-why.at c.loop-why.records c.loop-why.written) _ _ c.loop-why.invariant _ _ _ (sym c.next_at.ensures ∙ c.in-Ok.is) c.room_of-room.ensures (omega (arith, c.if-out-written.false)) _ _ _ _ _ c.turn-s.ensures.0 c.turn-s.ensures.1).1 in omega (arith, h.inside, c.well_formed)

pub overflow_add-records-in-Ok : goal.overflow_add-records-in-Ok
overflow_add-records-in-Ok c = let h = going_along _ _ _ _ _ (step_keeps _ c.requires.0) (λ i. omega (arith, c.shared_slice_known-1.given i)) _ _ _ _ _ _ _ _ c.shifts-b.ensures (going_turn _ _ _ _ _ (step_keeps _ c.requires.0) (λ i. omega (arith, c.shared_slice_known-1.given i)) (walk_at c.loop-why.s c.loop-why.at c.loop-why.records c.loop-why.written) _ _ c.loop-why.invariant _ _ _ (sym c.next_at.ensures ∙ c.in-Ok.is) c.room_of-room.ensures (omega (arith, c.if-out-written.false)) _ _ _ _ _ c.turn-s.ensures.0 c.turn-s.ensures.1).1 in omega (arith, h.pace, h.inside, c.well_formed)

pub overflow_add-written-in-Ok : goal.overflow_add-written-in-Ok
overflow_add-written-in-Ok c = let h = going_along _ _ _ _ _ (step_keeps _ c.requires.0) (λ i. omega (arith, c.shared_slice_known-1.given i)) _ _ _ _ _ _ _ _ c.shifts-b.ensures (going_turn _ _ _ _ _ (step_keeps _ c.requires.0) (λ i. omega (arith, c.shared_slice_known-1.given i)) (walk_at c.loop-why.s c.loop-why.at c.loop-why.records c.loop-why.written) _ _ c.loop-why.invariant _ _ _ (sym c.next_at.ensures ∙ c.in-Ok.is) c.room_of-room.ensures (omega (arith, c.if-out-written.false)) _ _ _ _ _ c.turn-s.ensures.0 c.turn-s.ensures.1).1 in omega (arith, h.roomy, c.well_formed)

pub loop-why-smaller : goal.loop-why-smaller
loop-why-smaller c = let on = going_turn _ _ _ _ _ (step_keeps _ c.requires.0) (λ i. omega (arith, c.shared_slice_known-1.given i)) (walk_at c.loop-why.s c.loop-why.at c.loop-why.records c.loop-why.written) _ _ c.loop-why.invariant _ _ _ (sym c.next_at.ensures ∙ c.in-Ok.is) c.room_of-room.ensures (omega (arith, c.if-out-written.false)) _ _ _ _ _ c.turn-s.ensures.0 c.turn-s.ensures.1 in let h = going_along _ _ _ _ _ (step_keeps _ c.requires.0) (λ i. omega (arith, c.shared_slice_known-1.given i)) _ _ _ _ _ _ _ _ c.shifts-b.ensures (going_turn _ _ _ _ _ (step_keeps _ c.requires.0) (λ i. omega (arith, c.shared_slice_known-1.given i)) (walk_at c.loop-why.s c.loop-why.at c.loop-why.records c.loop-why.written) _ _ c.loop-why.invariant _ _ _ (sym c.next_at.ensures ∙ c.in-Ok.is) c.room_of-room.ensures (omega (arith, c.if-out-written.false)) _ _ _ _ _ c.turn-s.ensures.0 c.turn-s.ensures.1).1 in omega (arith, on.0, h.inside)

pub loop-why-preserved : goal.loop-why-preserved
loop-why-preserved c = going_along _ _ _ _ _ (step_keeps _ c.requires.0) (λ i. omega (arith, c.shared_slice_known-1.given i)) _ _ _ _ _ _ _ _ c.shifts-b.ensures (going_turn _ _ _ _ _ (step_keeps _ c.requires.0) (λ i. omega (arith, c.shared_slice_known-1.given i)) (walk_at c.loop-why.s c.loop-why.at c.loop-why.records c.loop-why.written) _ _ c.loop-why.invariant _ _ _ (sym c.next_at.ensures ∙ c.in-Ok.is) c.room_of-room.ensures (omega (arith, c.if-out-written.false)) _ _ _ _ _ c.turn-s.ensures.0 c.turn-s.ensures.1).1
