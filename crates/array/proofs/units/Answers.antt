-- `units`: each operation by its own function; a reset's units by none.
use mathlib.Core.Path.{sym}
use Prim.Native.Nat.{◌-◌}
use Rattle.array.specs.Jobs.{store}
use Rattle.array.proofs.Stores.{restart_none}
use Rattle.array.proofs.units.Goals as goal

pub returns-in-Restart : goal.returns-in-Restart
returns-in-Restart c =
    let a = c.args in
    rw c.in-Restart.is (sym (restart_none a.g (a.to - a.from) a.from (store a.cells.now a.cache.now)))
