-- Document 01, "Instructions", 10h and D8h: whether a request to program or to erase begins, and what it does to the page counts.
use Rattle.std.specs.Prelude.{Bool, true, false, not, Result, Ok, Err, List, ◌++◌, ℕ, ◌+◌, ◌*◌, leb, length, get_or, take, drop, set, replicate, if◌then◌else◌}
use Rattle.part.specs.Part.{block}
use Rattle.part.specs.Protection.{protects}
use Rattle.part.specs.declared.Geometry.{Geometry}
use Rattle.part.specs.declared.Row.{Row}
use Rattle.array.specs.Jobs.{inside}
use Rattle.requests.specs.declared.Bar.{Bar}
use Rattle.requests.specs.declared.Bar.TheVariants.{ByRow, ByProtection, ByCount}

-- what becomes of a request to program or to erase: it begins, or is barred
abbrev pub Fate : Type 0
Fate = Result Unit Bar

-- it begins, or fails for the first true reason
abbrev pub begins? : Fate → Bool
begins? (Ok _) = true
begins? (Err _) = false

-- the row is outside the array, or its block is protected; else what more there is to ask
abbrev pub barred : Geometry → ℕ → Row → Fate → Fate
barred g a0 r rest = if not (inside g r) then Err ByRow else if protects g a0 (block g r) then Err ByProtection else rest

-- how often the page of a row has been programmed since its block was erased
abbrev pub used_of : Row → List ℕ → ℕ
used_of r counts = get_or counts r.0 0

-- 10h also fails if the count is 4 or above
unfoldable pub program_fate : Geometry → ℕ → Row → List ℕ → Fate
program_fate g a0 r counts = barred g a0 r (if leb 4 (used_of r counts) then Err ByCount else Ok tt)

-- D8h asks no more
unfoldable pub erase_fate : Geometry → ℕ → Row → Fate
erase_fate g a0 r = barred g a0 r (Ok tt)

-- the count rises by 1
abbrev pub counted : Row → List ℕ → List ℕ
counted r counts = set counts r.0 (used_of r counts + 1)

-- the block's counts, K of them from the block's first page on, become 0
abbrev pub uncounted : Geometry → Row → List ℕ → List ℕ
uncounted g r counts =
    let k = g.pages in
    let a = block g r * k in
    take a counts ++ (replicate (length (take k (drop a counts))) 0 ++ drop (a + k) counts)

-- the page counts after a request: changed only where it begins
abbrev pub counts_after : Fate → (List ℕ → List ℕ) → List ℕ → List ℕ
counts_after f change counts = if begins? f then change counts else counts
