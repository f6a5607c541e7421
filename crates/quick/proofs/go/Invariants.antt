-- The loop over the log: each turn and the stream behind it keep `Going`, and each way out is the end of the whole run.
use Prim.Native.Nat.{◌-◌}
use lib.ListN.{length}
use Rattle.device.specs.Machine.{machine}
use Rattle.device.specs.Work.{unitwise}
use Rattle.model.proofs.Loop.{Going}
use Rattle.quick.specs.Along.{walk_at}
use Rattle.quick.proofs.go.Given as goal

abbrev pub invariant-loop-why : goal.invariant-loop-why
invariant-loop-why l =
    Going l.g (unitwise l.g) l.log l.initial.out (machine l.initial.s l.initial.cells l.initial.cache l.initial.counts) (walk_at l.s l.at l.records l.written) l.out (machine l.s l.cells l.cache l.counts)

abbrev pub decreases-loop-why : goal.decreases-loop-why
decreases-loop-why l = length l.log - l.at
