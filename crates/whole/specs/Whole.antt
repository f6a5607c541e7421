-- Document 01, "Work of the array", last paragraph: the same machine with every operation done whole as it begins, by the page and block
-- sentences.
use Rattle.std.specs.Prelude.{List, [], ◌∷◌, ◌≡◌, ℕ, ◌*◌, take, drop, replicate, if◌then◌else◌}
use Rattle.std.specs.Int.Bits.{bit_and}
use Rattle.part.specs.Part.{page}
use Rattle.part.specs.declared.Geometry.{Geometry}
use Rattle.part.specs.declared.Row.{Row}
use Rattle.buslog.specs.Write.{over}
use Rattle.array.specs.Jobs.{Store, with_cells, with_cache, page_at, block_at, inside}
use Rattle.array.specs.declared.Job.{Job}
use Rattle.array.specs.declared.Job.TheVariants.{Read, Program, Erase, Restart}
use Rattle.device.specs.Machine.{Machine, over_store}
use Rattle.device.specs.Work.{Array}
use Rattle.device.specs.Instructions.{resets}
use Rattle.cases.specs.AfterReset.{after_reset}

-- two lists ANDed, byte by byte
unfoldable pub ands : List ℕ → List ℕ → List ℕ
ands [] ys = []
ands (x ∷ xs) [] = x ∷ xs
ands (x ∷ xs) (y ∷ ys) = bit_and x y ∷ ands xs ys

-- the page of a row: its cells, all FFh for a row outside the array
unfoldable pub page_of : Geometry → Row → List ℕ → List ℕ
page_of g r cells = if inside g r then take (page g) (drop (page_at g r) cells) else replicate (page g) 0xFF

-- a read is the page copied, a program the page ANDed, an erase the block all FFh; a reset leaves cells and cache register alone, so that
-- done whole it is its register changes (document 02, item 2)
unfoldable pub done : Geometry → Job → Store → Store
done g (Read r) s = with_cache (page_of g r s.cells) s
done g (Program r) s = with_cells (over s.cells (page_at g r) (ands (page_of g r s.cells) s.cache)) s
done g (Erase r) s = with_cells (over s.cells (block_at g r) (replicate (g.pages * page g) 0xFF)) s
done g Restart s = s

-- every operation is done as it begins, work records do nothing, and there is nothing to settle at a cut
unfoldable pub whole : Geometry → Array
whole g = record { begin = λ j m. over_store (done g j) m; worked = λ n m. m; cut = λ m. m }

-- a reset, done whole, is its register changes alone: all memory is as it was
abbrev pub ResetWhole : Type 0
ResetWhole = (g : Geometry) (m : Machine) → resets (whole g) m ≡ after_reset m
