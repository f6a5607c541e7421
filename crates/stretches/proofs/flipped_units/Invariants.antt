-- `flipped_units`: at unit i, going on ends where going from the first unit ends.
use lib.Bits.{bit_xor}
use lib.ListN.{get_or}
use Rattle.stretches.proofs.Loop.{Running}
use Rattle.stretches.proofs.flipped_units.Given as goal

abbrev pub invariant-loop-i : goal.invariant-loop-i
invariant-loop-i q = Running (λ j l. bit_xor (get_or q.page j 0) (get_or q.marks j 0)) q.from q.to q.initial.cache q.cache q.i
