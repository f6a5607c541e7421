-- `erase`: the block's own stretch, erased and laid back.
use Prim.Native.Nat.{◌+◌, ◌-◌, ◌*◌}
use native.Mathlib.Omega.{arith}
use Rattle.part.specs.Part.{page}
use Rattle.array.specs.Jobs.{block_at}
use Rattle.array.proofs.Room.{block_in}
use Rattle.array.proofs.Stores.{erase_in}
use Rattle.array.proofs.erase.Goals as goal

pub slice_bounds-erase_units-end : goal.slice_bounds-erase_units-end
slice_bounds-erase_units-end c =
    rw (c.page.ensures, c.block.ensures)
    (omega (arith, block_in c.args.g c.args.row c.requires.0.part c.requires.0.going.in_array))

pub returns : goal.returns
returns c =
    let a = c.args in
    let at = block_at a.g a.row in
    rw (c.erase_units.ensures, c.page.ensures, c.block.ensures)
    (erase_in a.g a.row a.cells.now a.cache.now (at + a.g.pages * page a.g - at) (a.to - a.from) a.from (omega arith))
