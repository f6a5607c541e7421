-- The loop over the log: each turn keeps `Going`, and the way out is the end of the whole run.
use Prim.Native.Nat.{◌-◌}
use lib.ListN.{length}
use Rattle.card.specs.Card.{card}
use Rattle.slot.proofs.Loop.{Going}
use Rattle.slot.proofs.go.Given as goal

abbrev pub invariant-loop-next : goal.invariant-loop-next
invariant-loop-next l = Going l.log l.initial.out (card l.initial.w.stage l.initial.cells l.initial.bits) l.w l.out (card l.w.stage l.cells l.bits)

abbrev pub decreases-loop-next : goal.decreases-loop-next
decreases-loop-next l = length l.log - l.w.at
