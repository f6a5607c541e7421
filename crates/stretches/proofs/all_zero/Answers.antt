-- `all_zero`: at byte i, what was seen is 0 exactly where the sum so far is.
use native.Mathlib.Omega.{arith}
use Rattle.stretches.proofs.Zeros.{seen_none, seen_more, seen_all}
use Rattle.stretches.proofs.all_zero.Goals as goal

pub loop-b-init : goal.loop-b-init
loop-b-init c = seen_none

pub loop-b-preserved : goal.loop-b-preserved
loop-b-preserved c = seen_more c.loop-b.invariant (omega arith)

pub returns : goal.returns
returns c = seen_all c.loop-b.invariant (omega arith)
