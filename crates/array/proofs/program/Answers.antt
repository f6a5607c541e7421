-- `program`: the page's own stretch, programmed and laid back.
use Prim.Native.Nat.{◌+◌, ◌-◌}
use native.Mathlib.Omega.{arith}
use Rattle.part.specs.Part.{page}
use Rattle.array.specs.Jobs.{page_at}
use Rattle.array.proofs.Room.{page_in}
use Rattle.array.proofs.Stores.{program_in}
use Rattle.array.proofs.program.Goals as goal

pub slice_bounds-program_units-end : goal.slice_bounds-program_units-end
slice_bounds-program_units-end c =
    omega (arith, page_in c.args.g c.args.row c.requires.0.part c.requires.0.going.in_array)

pub returns : goal.returns
returns c =
    let a = c.args in
    let at = page_at a.g a.row in
    rw (c.program_units.ensures, c.place-a.ensures, c.page.ensures)
    (program_in a.g a.row a.cells.now a.cache.now (at + page a.g - at) (a.to - a.from) a.from (omega arith))
