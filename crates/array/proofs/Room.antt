-- Where a row's page and its block lie: within the cells, and small.
use mathlib.Core.Path.{◌≡◌}
use Prim.Native.Nat.{ℕ, ◌+◌, ◌*◌, ◌/◌, ◌≤◌, ◌<◌}
use native.Mathlib.Nat.{mul-le-mul, mul-le-mul_right, suc-mul, mul_comm, mul_assoc}
use native.Mathlib.Omega.{arith}
use Rattle.part.specs.Part.{page, rows, block, Sound}
use Rattle.part.specs.declared.Geometry.{Geometry}
use Rattle.part.specs.declared.Row.{Row}
use Rattle.part.proofs.Laws.{block_below}
use Rattle.array.specs.declared.Job.{Job}
use Rattle.array.specs.declared.Job.TheVariants.{Read, Program, Erase, Restart}
use Rattle.array.specs.Jobs.{page_at, block_at, length_of}

-- of many stretches of one length, each lies within all of them
stretch_in : (r many long : ℕ) → r < many → r * long + long ≤ many * long
stretch_in r many long h = rw (← suc-mul r long) (mul-le-mul_right long h)

-- all the cells are few
array_small : (g : Geometry) → Sound g → rows g * page g ≤ 268435456
array_small g s = mul-le-mul s.few_rows s.small_page

module _ (g : Geometry) (r : Row) (s : Sound g) (h : r.0 < rows g) where
  pub page_in : (page_at g r + page g ≤ rows g * page g) × (rows g * page g ≤ 268435456)
  page_in = (omega (arith, stretch_in r.0 (rows g) (page g) h), array_small g s)

  pub block_in : (block_at g r + g.pages * page g ≤ rows g * page g) × (rows g * page g ≤ 268435456)
  block_in =
      let e : g.pages * g.blocks * page g ≡ g.blocks * (g.pages * page g) = rw (mul_comm g.pages g.blocks, mul_assoc g.blocks g.pages (page g)) in
      (rw e (stretch_in (r.0 / g.pages) g.blocks (g.pages * page g) (block_below g r h)), array_small g s)

  -- and its rows are among the rows
  pub rows_in : block g r * g.pages + g.pages ≤ rows g
  rows_in = rw (mul_comm g.pages g.blocks) (stretch_in (r.0 / g.pages) g.blocks g.pages (block_below g r h))

pub block_small : (g : Geometry) → Sound g → g.pages * page g ≤ 1048576
block_small g s = mul-le-mul s.few_pages s.small_page

-- an operation has at most a block's bytes to do
pub length_small : (g : Geometry) (j : Job) → Sound g → length_of g j ≤ 1048576
length_small g (Read r) s = omega (arith, s.small_page)
length_small g (Program r) s = omega (arith, s.small_page)
length_small g (Erase r) s = block_small g s
length_small g Restart s = omega arith
