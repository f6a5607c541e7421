-- `ones_in`: at byte i, going on counts what going from the first byte counts; 8 for a byte at most.
use mathlib.Core.Path.{refl}
use Prim.Native.Nat.{ℕ, ◌<◌}
use native.Mathlib.Omega.{arith}
use lib.Count.{ones-le}
use lib.ListN.{get_or}
use Rattle.stretches.proofs.Loop.{taken, took}
use Rattle.stretches.proofs.ones_in.Goals as goal

pub loop-i-preserved : goal.loop-i-preserved
loop-i-preserved c =
    let b : ℕ = get_or c.args.bytes.now c.loop-i.i 0 in
    let h : b < 256 = omega (arith, c.type_inv.bytes c.loop-i.i) in
    (taken c.loop-i.invariant.0 c.loop-i-test.true refl, omega (arith, ones-le 8 b h))

pub returns : goal.returns
returns c = (took c.loop-i.invariant.0 (omega arith), omega (arith, c.loop-i.invariant.0.below))
