-- Document 02, item 3: marked bits, the sectors of a page, what a read's last unit mends, and what it says in ECCS.
use Rattle.std.specs.Prelude.{Bool, ◌&&◌, ◌||◌, List, ℕ, ◌+◌, ◌*◌, ◌/◌, ◌%◌, max, eqb, leb, ltb, get_or, set, if◌then◌else◌}
use Rattle.std.specs.Int.Bits.{bit_xor}
use Rattle.part.specs.Part.{page}
use Rattle.part.specs.declared.Geometry.{Geometry}
use Rattle.stretches.specs.Steps.{steps, ones_from}
use Rattle.ecc.specs.declared.Sector.{Sector}

-- ---- sectors

-- D is a multiple of 512 and S is D / 16
abbrev pub sectored : Geometry → Bool
sectored g = eqb (g.main % 512) 0 && eqb g.spare (g.main / 16)

-- such a page has a sector for each 512 data bytes; any other page is one sector
abbrev pub sectors : Geometry → ℕ
sectors g = if sectored g then g.main / 512 else 1

-- sector j: where its data bytes begin, and how many there are; a page that is one sector has them all here
abbrev pub data_at : Geometry → ℕ → ℕ
data_at g j = if sectored g then 512 * j else 0

abbrev pub data_long : Geometry → ℕ
data_long g = if sectored g then 512 else page g

-- and the first 16 of their 32 spare bytes, the other 16 uncovered
abbrev pub spare_at : Geometry → ℕ → ℕ
spare_at g j = if sectored g then g.main + 32 * j else page g

abbrev pub spare_long : Geometry → ℕ
spare_long g = if sectored g then 16 else 0

-- the two stretches, each from a place up to another
abbrev pub sector_at : Geometry → ℕ → Sector
sector_at g j = record { main = data_at g j; past = data_at g j + data_long g; spare = spare_at g j; end = spare_at g j + spare_long g }

-- a column is one of n from a place on
abbrev pub among : ℕ → ℕ → ℕ → Bool
among a n c = leb a c && ltb c (a + n)

-- sector j has a column
abbrev pub in_sector : Geometry → ℕ → ℕ → Bool
in_sector g j c = among (data_at g j) (data_long g) c || among (spare_at g j) (spare_long g) c

-- ---- a page's marks: a byte for each column

-- the marked bits of sector j
unfoldable pub marked : Geometry → (ℕ → ℕ) → ℕ → ℕ
marked g marks j = ones_from marks (data_at g j) (data_long g) + ones_from marks (spare_at g j) (spare_long g)

-- the most that one sector has
unfoldable pub worst : Geometry → (ℕ → ℕ) → ℕ
worst g marks = steps (λ j n. max n (marked g marks j)) 0 (sectors g) 0

-- ECCS for so many: 000 none, 001 for 1 to 3, 011 for 4 to 6, 101 for 7 or 8, 010 above 8
unfoldable pub eccs : ℕ → ℕ
eccs n = if eqb n 0 then 0 else if leb n 3 then 1 else if leb n 6 then 3 else if leb n 8 then 5 else 2

-- one of the five values
abbrev pub is_eccs : ℕ → Bool
is_eccs v = eqb v 0 || eqb v 1 || eqb v 2 || eqb v 3 || eqb v 5

-- ---- mending

-- the marked bits of n bytes turned back, from a place on
abbrev pub turned_back : (ℕ → ℕ) → ℕ → ℕ → List ℕ → List ℕ
turned_back marks = steps (λ i l. set l i (bit_xor (get_or l i 0) (marks i)))

-- those of sector j
unfoldable pub sector_turned : Geometry → (ℕ → ℕ) → ℕ → List ℕ → List ℕ
sector_turned g marks j cache = turned_back marks (spare_at g j) (spare_long g) (turned_back marks (data_at g j) (data_long g) cache)

-- if there are at most 8
abbrev pub mended_sector : Geometry → (ℕ → ℕ) → ℕ → List ℕ → List ℕ
mended_sector g marks j cache = if leb (marked g marks j) 8 then sector_turned g marks j cache else cache

-- one sector after another
unfoldable pub mended : Geometry → (ℕ → ℕ) → List ℕ → List ℕ
mended g marks = steps (mended_sector g marks) 0 (sectors g)
