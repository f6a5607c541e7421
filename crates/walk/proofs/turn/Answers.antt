-- One record done: each arm is its method.
use native.Mathlib.Omega.{arith}
use mathlib.Core.Path.{ap}
use Prim.Native.Nat.{◌<◌}
use lib.ListN.{length}
use Rattle.device.specs.declared.State.{State}
use Rattle.device.specs.Machine.{machine}
use Rattle.device.specs.Work.{unitwise}
use Rattle.device.specs.Step.{step}
use Rattle.buslog.proofs.RoundTrip.{over_none, over_one}
use Rattle.walk.proofs.turn.Goals as goal

pub returns-in-Select : goal.returns-in-Select
unfolding step
returns-in-Select c = rw c.in-Select.is (ap (λ (s : State). machine s c.args.cells.now c.args.cache.now c.args.counts.now) c.select.ensures, over_none c.args.out.now c.args.at)

pub returns-in-Shift : goal.returns-in-Shift
unfolding step
returns-in-Shift c =
    let room : c.args.at < length c.args.out.now = omega (arith, rw c.in-Shift.is at c.requires.2) in
    rw c.in-Shift.is (c.shift-h.ensures.0 (machine c.args.s c.args.cells.now c.args.cache.now c.args.counts.now), rw c.shift-h.ensures.1 (over_one c.args.out.now c.args.at _ room))

pub returns-in-Deselect : goal.returns-in-Deselect
unfolding step
returns-in-Deselect c = rw c.in-Deselect.is (c.deselect.ensures (machine c.args.s c.args.cells.now c.args.cache.now c.args.counts.now), over_none c.args.out.now c.args.at)

pub returns-in-Units : goal.returns-in-Units
unfolding step unitwise
returns-in-Units c = rw (c.in-Units.is, ← c.from.ensures) (c.work.ensures (machine c.args.s c.args.cells.now c.args.cache.now c.args.counts.now), over_none c.args.out.now c.args.at)

pub returns-in-Level : goal.returns-in-Level
unfolding step
returns-in-Level c = rw c.in-Level.is (ap (λ (s : State). machine s c.args.cells.now c.args.cache.now c.args.counts.now) (rw c.pins_of.ensures at c.level.ensures), over_none c.args.out.now c.args.at)

pub returns-in-Power : goal.returns-in-Power
unfolding step
returns-in-Power c = rw c.in-Power.is (c.power.ensures (machine c.args.s c.args.cells.now c.args.cache.now c.args.counts.now), over_none c.args.out.now c.args.at)
