-- Document 01, "The article": the part, when its geometry is sound, the cell of a row and a column, the block of a row, and the two named
-- parts.
use Rattle.std.specs.Prelude.{Bool, ◌&&◌, ℕ, ◌+◌, ◌*◌, ◌/◌, ◌≤◌, leb}
use Rattle.part.specs.declared.Geometry.{Geometry}
use Rattle.part.specs.declared.Stepping.{Stepping}
use Rattle.part.specs.declared.Stepping.TheVariants.{First}
use Rattle.part.specs.declared.Row.{Row}
use Rattle.part.specs.declared.Column.{Column}

-- P = D + S
abbrev pub page : Geometry → ℕ
page g = g.main + g.spare

-- one row a page: K times N
abbrev pub rows : Geometry → ℕ
rows g = g.pages * g.blocks

-- sound geometry, in the paper's words
pub record Sound (g : Geometry) : Type 0 where
  pub some_bytes : 1 ≤ g.main
  pub small_page : page g ≤ 4096
  pub some_pages : 1 ≤ g.pages
  pub few_pages : g.pages ≤ 256
  pub some_blocks : 1 ≤ g.blocks
  pub few_rows : rows g ≤ 65536

-- the same as a test
unfoldable pub sound_part : Geometry → Bool
sound_part g = leb 1 g.main && leb (page g) 4096 && leb 1 g.pages && leb g.pages 256 && leb 1 g.blocks && leb (rows g) 65536

-- the cell of row r, column c is at r·P + c
abbrev pub place : Geometry → Row → Column → ℕ
place g r c = r.0 * page g + c.0

-- the block of row r is r / K
abbrev pub block : Geometry → Row → ℕ
block g r = r.0 / g.pages

-- the same part of another stepping
abbrev pub of_stepping : Stepping → Geometry → Geometry
of_stepping st g = record { main = g.main; spare = g.spare; pages = g.pages; blocks = g.blocks; id0 = g.id0; id1 = g.id1; stepping = st }

-- a part of nothing, which is not sound
abbrev pub no_part : Geometry
no_part = record { main = 0; spare = 0; pages = 0; blocks = 0; id0 = 0; id1 = 0; stepping = First }

-- a part of these numbers, of the first stepping
abbrev pub first_of : ℕ → ℕ → ℕ → ℕ → ℕ → ℕ → Geometry
first_of d s k n id0 id1 = record { main = d; spare = s; pages = k; blocks = n; id0 = id0; id1 = id1; stepping = First }

-- FM25S005BI3, as it first came
abbrev pub fm25s005bi3 : Geometry
fm25s005bi3 = record { main = 2048; spare = 128; pages = 64; blocks = 512; id0 = 0xA1; id1 = 0xD5; stepping = First }

-- bench, of the first stepping too
abbrev pub bench : Geometry
bench = record { main = 16; spare = 4; pages = 4; blocks = 8; id0 = 0x5A; id1 = 0x01; stepping = First }
