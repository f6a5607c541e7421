-- The loop over the log: each turn keeps `Going`, and the way out is the end of the whole run.
use Prim.Native.Nat.{◌-◌}
use lib.ListN.{length}
use Rattle.device.specs.Machine.{machine}
use Rattle.device.specs.Work.{unitwise}
use Rattle.model.proofs.Loop.{Going}
use Rattle.model.proofs.go.Given as goal

abbrev pub invariant-loop-next : goal.invariant-loop-next
invariant-loop-next l =
    Going l.g (unitwise l.g) l.log l.initial.out (machine l.initial.w.state l.initial.cells l.initial.cache l.initial.counts) l.w l.out (machine l.w.state l.cells l.cache l.counts)

abbrev pub decreases-loop-next : goal.decreases-loop-next
decreases-loop-next l = length l.log - l.w.at
