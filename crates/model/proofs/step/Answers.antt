-- One record done: the checks, its level, its room, and then the record.
use mathlib.Core.Path.{refl, sym, ◌∙◌}
use native.Mathlib.Omega.{arith}
use borrow.Author.Tests.{not-true, not-false}
use Rattle.refusals.proofs.Checked.{sound_as, refused_as, refused_no, done_as}
use Rattle.model.proofs.Single.{run_refused, step_bad, step_full, step_done}
use Rattle.model.proofs.step.Goals as goal

pub returns-in-Err : goal.returns-in-Err
returns-in-Err c = rw (c.so_far.ensures, c.start.ensures) (run_refused _ _ _ _ _ _ _ (refused_as _ _ c.check.ensures c.in-Err.is) (refused_no _ _ c.check.ensures c.in-Err.is))

pub returns-then-not-level_sound : goal.returns-then-not-level_sound
returns-then-not-level_sound c = rw (c.so_far-then-not-level_sound.ensures, c.start-then-not-level_sound.ensures) (step_bad _ _ c.args.out.now _ c.args.e _ (done_as _ _ c.check.ensures c.in_default.is) refl (sym c.level_sound.ensures ∙ not-true _ c.if-not-level_sound.true-raw))

pub returns-then-out-takes : goal.returns-then-out-takes
returns-then-out-takes c = rw (c.so_far-then-out-takes.ensures, c.start-then-out-takes.ensures) (step_full _ _ c.args.out.now _ c.args.e _ (done_as _ _ c.check.ensures c.in_default.is) refl (sym c.level_sound.ensures ∙ not-false _ c.if-not-level_sound.false-raw) (omega (arith, c.if-out-takes.true, c.room_of-takes.ensures)))

pub turn-state-requires : goal.turn-state-requires
turn-state-requires c = let s = sound_as _ _ _ (done_as _ _ c.check.ensures c.in_default.is) refl in (s.0, s.1, omega (arith, c.if-out-takes.false, c.room_of-takes.ensures))

pub returns : goal.returns
returns c = rw (c.length_of.ensures, c.room_of-takes.ensures) (step_done _ _ c.args.out.now _ c.args.e _ (done_as _ _ c.check.ensures c.in_default.is) refl (sym c.level_sound.ensures ∙ not-false _ c.if-not-level_sound.false-raw) (omega (arith, c.if-out-takes.false, c.room_of-takes.ensures)) _ _ c.turn-state.ensures.0 c.turn-state.ensures.1)
