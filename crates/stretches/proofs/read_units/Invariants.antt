-- `read_units`: at unit i, going on ends where going from the first unit ends.
use lib.ListN.{get_or}
use Rattle.stretches.proofs.Loop.{Running}
use Rattle.stretches.proofs.read_units.Given as goal

abbrev pub invariant-loop-i : goal.invariant-loop-i
invariant-loop-i q = Running (λ j l. get_or q.page j 0) q.from q.to q.initial.cache q.cache q.i
