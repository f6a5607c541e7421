-- `program_units`: at unit i, going on ends where going from the first unit ends.
use lib.Bits.{bit_and}
use lib.ListN.{get_or}
use Rattle.stretches.proofs.Loop.{Running}
use Rattle.stretches.proofs.program_units.Given as goal

abbrev pub invariant-loop-i : goal.invariant-loop-i
invariant-loop-i q = Running (λ j l. bit_and (get_or l j 0) (get_or q.cache j 0)) q.from q.to q.initial.page q.page q.i
