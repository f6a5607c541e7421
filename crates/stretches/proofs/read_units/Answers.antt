-- `read_units`: at unit i, going on ends where going from the first unit ends.
use mathlib.Core.Path.{refl}
use native.Mathlib.Omega.{arith}
use Rattle.stretches.proofs.Loop.{moved, ended}
use Rattle.stretches.proofs.read_units.Goals as goal

pub loop-i-preserved : goal.loop-i-preserved
loop-i-preserved c = moved c.loop-i.invariant c.loop-i-test.true refl

pub returns : goal.returns
returns c = ended c.loop-i.invariant (omega arith)
