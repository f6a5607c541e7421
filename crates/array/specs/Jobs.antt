-- Document 01, "Work of the array": what unit i of an operation does, and how long an operation is.
use Rattle.std.specs.Prelude.{Bool, List, ◌≡◌, ℕ, ◌+◌, ◌-◌, ◌*◌, ◌<◌, min, ltb, length, get_or, set, if◌then◌else◌}
use Rattle.std.specs.Int.Bits.{bit_and}
use Rattle.part.specs.Part.{page, rows, place, block, Sound}
use Rattle.part.specs.declared.Geometry.{Geometry}
use Rattle.part.specs.declared.Row.{Row}
use Rattle.array.specs.declared.Job.{Job}
use Rattle.array.specs.declared.Job.TheVariants.{Read, Program, Erase, Restart}
use Rattle.array.specs.declared.Work.{Work}
use Rattle.array.specs.declared.Work.TheVariants.{Idle, Busy}
-- the steps of stretches are those of the array: step i, step i + 1 and so on, n of them
unfoldable pub use Rattle.stretches.specs.Steps.{steps}

-- what the array works on: the cells and the cache register
pub record Store : Type 0 where
  pub cells : List ℕ
  pub cache : List ℕ

abbrev pub store : List ℕ → List ℕ → Store
store cells cache = record { cells = cells; cache = cache }

abbrev pub with_cells : List ℕ → Store → Store
with_cells l s = store l s.cache

abbrev pub with_cache : List ℕ → Store → Store
with_cache l s = store s.cells l

-- where a row's page begins, and where its block does
abbrev pub page_at : Geometry → Row → ℕ
page_at g r = place g r (record { 0 = 0 })

abbrev pub block_at : Geometry → Row → ℕ
block_at g r = block g r * (g.pages * page g)

-- a row is in the array
abbrev pub inside : Geometry → Row → Bool
inside g r = ltb r.0 (rows g)

-- read, P units; program, P units; erase, K·P units; a reset 8 (document 02, item 2)
abbrev pub length_of : Geometry → Job → ℕ
length_of g (Read r) = page g
length_of g (Program r) = page g
length_of g (Erase r) = g.pages * page g
length_of g Restart = 8

-- read: cache byte i takes the cell; FFh if the row is outside the array
abbrev pub taken : Geometry → Row → ℕ → Store → Store
taken g r i s = with_cache (set s.cache i (if inside g r then get_or s.cells (page_at g r + i) 0 else 0xFF)) s

-- program: cell i becomes itself AND cache byte i
abbrev pub anded : Geometry → Row → ℕ → Store → Store
anded g r i s = let p = page_at g r + i in with_cells (set s.cells p (bit_and (get_or s.cells p 0) (get_or s.cache i 0))) s

-- erase: byte i of the block becomes FFh
abbrev pub blanked : Geometry → Row → ℕ → Store → Store
blanked g r i s = with_cells (set s.cells (block_at g r + i) 0xFF) s

-- what unit i of an operation writes; a reset's touches no cell and no cache byte
unfoldable pub written : Geometry → Job → ℕ → Store → Store
written g (Read r) i s = taken g r i s
written g (Program r) i s = anded g r i s
written g (Erase r) i s = blanked g r i s
written g Restart i s = s

-- n units of an operation, from unit i on: of those that are left, the first n
abbrev pub many : Geometry → Job → ℕ → ℕ → Store → Store
many g j i n = steps (written g j) i (min n (length_of g j - i))

-- the operation with i units done; finished, it leaves nothing of itself
abbrev pub onward : Geometry → Job → ℕ → Work
onward g j i = if ltb i (length_of g j) then Busy j i else Idle

-- an operation in progress has fewer units done than its length, and for program and erase its row is in the array
abbrev pub InArray : Geometry → Job → Type 0
InArray g (Read r) = Unit {0}
InArray g (Program r) = r.0 < rows g
InArray g (Erase r) = r.0 < rows g
InArray g Restart = Unit {0}

pub record Going (g : Geometry) (j : Job) (i : ℕ) : Type 0 where
  pub unit_left : i < length_of g j
  pub in_array : InArray g j

-- cells of P·K·N bytes, a cache register of P
pub record Fits (g : Geometry) (s : Store) : Type 0 where
  pub cells_long : length s.cells ≡ rows g * page g
  pub cache_long : length s.cache ≡ page g

-- what the work of an operation may count on
pub record Ready (g : Geometry) (j : Job) (i : ℕ) (s : Store) : Type 0 where
  pub part : Sound g
  pub going : Going g j i
  pub fits : Fits g s
