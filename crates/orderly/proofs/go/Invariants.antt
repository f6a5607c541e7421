-- The loop over the log: each turn keeps `Judging`, and the way out is the judgement on the whole run.
use Prim.Native.Nat.{◌-◌}
use lib.ListN.{length}
use Rattle.device.specs.Machine.{machine}
use Rattle.orderly.proofs.Judging.{Judging}
use Rattle.orderly.proofs.go.Given as goal

abbrev pub invariant-loop-next : goal.invariant-loop-next
invariant-loop-next l =
    Judging l.g l.log l.initial.out (machine l.initial.w.state l.initial.cells l.initial.cache l.initial.counts) l.w l.ok l.out (machine l.w.state l.cells l.cache l.counts)

abbrev pub decreases-loop-next : goal.decreases-loop-next
decreases-loop-next l = length l.log - l.w.at
