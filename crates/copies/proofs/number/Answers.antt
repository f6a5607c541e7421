-- The bytes of a number, read from the last on.
use Prim.Native.Nat.{◌-◌}
use native.Mathlib.Omega.{arith}
use lib.ListN.{length}
use Rattle.copies.proofs.Values.{none_read, one_read, three_bytes}
use Rattle.copies.proofs.number.Goals as goal

pub loop-i-init : goal.loop-i-init
loop-i-init c = none_read c.args.stretch.now

pub overflow_mul-n : goal.overflow_mul-n
overflow_mul-n c =
    let l = c.loop-i in
    omega (arith, c.requires, l.invariant.small, three_bytes (length c.args.stretch.now - l.i) (omega (arith, c.requires)))

pub overflow_add-n : goal.overflow_add-n
overflow_add-n c =
    let l = c.loop-i in
    omega (
      arith,
      c.requires,
      l.invariant.small,
      three_bytes (length c.args.stretch.now - l.i) (omega (arith, c.requires)),
      c.type_inv.stretch (l.i - 1),
    )

pub loop-i-preserved : goal.loop-i-preserved
loop-i-preserved c = rw c.from.ensures (one_read c.loop-i.invariant (omega arith) (omega (arith, c.type_inv.stretch (c.loop-i.i - 1))))
