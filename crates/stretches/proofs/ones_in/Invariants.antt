-- `ones_in`: at byte i, going on counts what going from the first byte counts; 8 for a byte at most.
use Prim.Native.Nat.{◌+◌, ◌*◌, ◌≤◌}
use lib.Count.{ones}
use lib.ListN.{get_or}
use Rattle.stretches.proofs.Loop.{Taking}
use Rattle.stretches.proofs.ones_in.Given as goal

abbrev pub invariant-loop-i : goal.invariant-loop-i
invariant-loop-i l = Taking (λ j n. n + ones (get_or l.bytes j 0)) l.from l.to 0 l.sum l.i × (l.sum ≤ 8 * l.i)
