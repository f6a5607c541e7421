-- The checks, and then the loop.
use mathlib.Core.Path.{refl}
use Rattle.refusals.proofs.Checked.{sound_as, refused_as, refused_no, done_as}
use Rattle.model.proofs.Single.{run_refused, run_ran}
use Rattle.model.proofs.run.Goals as goal

pub returns-in-Err : goal.returns-in-Err
returns-in-Err c = rw (c.so_far.ensures, c.start.ensures) (run_refused _ _ _ _ _ _ _ (refused_as _ _ c.check.ensures c.in-Err.is) (refused_no _ _ c.check.ensures c.in-Err.is))

pub go-requires : goal.go-requires
go-requires c = sound_as _ _ _ (done_as _ _ c.check.ensures c.in_default.is) refl

pub returns : goal.returns
returns c = run_ran _ _ _ _ _ _ _ (done_as _ _ c.check.ensures c.in_default.is) refl _ c.go.ensures
