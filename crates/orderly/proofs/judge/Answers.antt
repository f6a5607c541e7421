-- The checks, and then the loop.
use mathlib.Core.Path.{refl}
use Rattle.refusals.proofs.Checked.{sound_as, refused_as, refused_no, done_as}
use Rattle.orderly.proofs.Judging.{judged_none}
use Rattle.orderly.proofs.judge.Goals as goal

pub returns-in-Err : goal.returns-in-Err
returns-in-Err c = rw (c.closed.ensures, c.starts.ensures, c.so_far.ensures, c.start.ensures) (judged_none _ _ _ _ _ (refused_as _ _ c.check.ensures c.in-Err.is) (refused_no _ _ c.check.ensures c.in-Err.is))

pub go-requires : goal.go-requires
go-requires c = sound_as _ _ _ (done_as _ _ c.check.ensures c.in_default.is) refl
