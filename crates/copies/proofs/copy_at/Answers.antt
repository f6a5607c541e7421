-- 256 bytes from the place of a copy on.
use mathlib.Core.Path.{◌≡◌, refl}
use native.Mathlib.Omega.{arith}
use Prim.Native.Nat.{◌+◌, ◌-◌, ◌*◌}
use lib.ListN.{drop, length-drop}
use lib.Seq.{length-take-le}
use Rattle.copies.proofs.copy_at.Goals as goal

pub returns : goal.returns
returns c =
    let k = c.args.copy in
    let size : 256 * c.args.copy + 256 - 256 * c.args.copy ≡ 256 = omega arith in
    rw (c.from-at.ensures, size) (refl, length-take-le 256 (drop (256 * k) c.args.memory.now) (rw length-drop (omega arith)))
