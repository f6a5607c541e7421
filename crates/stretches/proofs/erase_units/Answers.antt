-- `erase_units`: the stretch filled is what its units leave.
use Prim.Native.Nat.{◌-◌}
use native.Mathlib.Omega.{arith}
use Rattle.stretches.proofs.Filled.{part_filled}
use Rattle.stretches.proofs.erase_units.Goals as goal

pub returns : goal.returns
returns c =
    let a = c.args in
    rw (c.fill.ensures.after (λ y e. e)) (part_filled 0xFF a.from (a.to - a.from) a.block.now (omega arith))
