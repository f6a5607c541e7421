-- The place stays within the log and goes on with each record; no more records are done than bytes are passed.
use Prim.Native.Nat.{◌-◌, ◌≤◌}
use lib.ListN.{length}
use Rattle.replay.proofs.replay.Given as goal

abbrev pub invariant-records : goal.invariant-records
invariant-records g l = (l.at ≤ length l.log) × (l.number ≤ l.at)

abbrev pub decreases-records : goal.decreases-records
decreases-records g l = length l.log - l.at
