-- Work of any number of units: the checks, and then the units.
use mathlib.Core.Path.{refl}
use Rattle.device.specs.Machine.{machine}
use Rattle.refusals.proofs.Checked.{sound_as, refused_as, refused_no, done_as}
use Rattle.walk.proofs.Turns.{work_ready}
use Rattle.beside.proofs.Works.{work_refused, work_done}
use Rattle.beside.proofs.work.Goals as goal

pub returns-in-Err : goal.returns-in-Err
returns-in-Err c = rw (c.so_far.ensures, c.start.ensures) (work_refused _ c.args.n (machine c.args.state c.args.cells.now c.args.cache.now c.args.counts.now) _ (refused_as _ _ c.check.ensures c.in-Err.is) (refused_no _ _ c.check.ensures c.in-Err.is))

pub work-state-requires : goal.work-state-requires
work-state-requires c =
    let s = sound_as _ (machine c.args.state c.args.cells.now c.args.cache.now c.args.counts.now) _ (done_as _ _ c.check.ensures c.in_default.is) refl in
    work_ready _ s.0 (machine c.args.state c.args.cells.now c.args.cache.now c.args.counts.now) s.1

pub returns : goal.returns
returns c = work_done _ c.args.n (machine c.args.state c.args.cells.now c.args.cache.now c.args.counts.now) _ (done_as _ _ c.check.ensures c.in_default.is) refl _ (c.work-state.ensures (machine c.args.state c.args.cells.now c.args.cache.now c.args.counts.now))
