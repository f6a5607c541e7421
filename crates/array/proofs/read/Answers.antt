-- `read`: a row in the array fills the cache from its page, a row outside it with FFh.
use Prim.Native.Nat.{◌+◌, ◌-◌}
use native.Mathlib.Omega.{arith}
use Rattle.part.specs.Part.{page}
use Rattle.array.specs.Jobs.{page_at}
use Rattle.array.proofs.Room.{page_in}
use Rattle.array.proofs.Stores.{read_in, read_out}
use Rattle.array.proofs.read.Goals as goal

pub slice_bounds-read_units-end : goal.slice_bounds-read_units-end
slice_bounds-read_units-end c =
    omega (arith, page_in c.args.g c.args.row c.requires.0.part (omega arith))

pub returns-then-from-rows : goal.returns-then-from-rows
returns-then-from-rows c =
    let a = c.args in
    let at = page_at a.g a.row in
    rw (c.read_units.ensures, c.place-a.ensures, c.page.ensures)
    (read_in a.g a.row a.cells.now a.cache.now (at + page a.g - at) (a.to - a.from) a.from (omega arith) (omega arith))

pub returns-else-from-rows : goal.returns-else-from-rows
returns-else-from-rows c =
    let a = c.args in
    rw c.erase_units.ensures (read_out a.g a.row a.cells.now a.cache.now a.to (a.to - a.from) a.from (omega arith) (omega arith))
