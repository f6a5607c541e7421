-- `all_zero`: at byte i, what was seen is 0 exactly where the sum so far is.
use Rattle.stretches.proofs.Zeros.{Seen}
use Rattle.stretches.proofs.all_zero.Given as goal

abbrev pub invariant-loop-b : goal.invariant-loop-b
invariant-loop-b l = Seen l.bytes l.seen l.b-index
