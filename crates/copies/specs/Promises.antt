-- What is promised of the reader of the three copies.
use Rattle.std.specs.Prelude.{List, ◌++◌, ◌↔◌, ◌≡◌, ℕ, ◌*◌, ◌≤◌, ◌<◌, T, Ok, length, take, drop, get_or, set}
use Rattle.part.specs.Part.{Sound}
use Rattle.part.specs.declared.Geometry.{Geometry}
use Rattle.crc.specs.Promises.{Bytes}
use Rattle.sheet.specs.Page.{page_of, make_of}
use Rattle.copies.specs.Copies.{copy_at, Holds, holds, sizes_in, sizes_of, found, read_of, figures}
use Rattle.copies.specs.declared.Sizes.{Sizes}

-- the test of a copy says exactly what the request asks of it
abbrev pub HoldsExactly : Type 0
HoldsExactly = (p : List ℕ) → T (holds p) ↔ Holds p

-- ---- refusals exactly, for every content of the memory

-- when the reader gives number n
pub data ReadLine (l : List ℕ) : ℕ → Type 0 where
  too_short : length l < 768 → ReadLine l 11
  none_holds : 768 ≤ length l → ((k : ℕ) → k < 3 → ¬ Holds (copy_at k l)) → ReadLine l 10
  one_holds : 768 ≤ length l → (k : ℕ) → k < 3 → Holds (copy_at k l) → ReadLine l 0

-- it gives n if and only if line n holds
abbrev pub ReaderExactly : Type 0
ReaderExactly = (l : List ℕ) (n : ℕ) → (figures (read_of l)).refusal ≡ n ↔ ReadLine l n

-- ---- what it answers

-- copy k is the first that holds, and s its four numbers as they stand
pub record First (l : List ℕ) (k : ℕ) (s : Sizes) : Type 0 where
  pub one_of_three : k < 3
  pub holds_it : Holds (copy_at k l)
  pub none_before : (j : ℕ) → j < k → ¬ Holds (copy_at j l)
  pub numbers : s ≡ sizes_in (copy_at k l)

-- so it is with what the reader answers
abbrev pub FirstHolds : Type 0
FirstHolds = (l : List ℕ) (k : ℕ) (s : Sizes) → read_of l ≡ Ok (found k s) → First l k s

-- what was made reads back: a part's page, made in the memory from copy k on where no copy before it holds, is found there, with the part's
-- own four numbers
abbrev pub MadeReads : Type 0
MadeReads =
    (g : Geometry) → Sound g → (l : List ℕ) → 768 ≤ length l → (k : ℕ) → k < 3 → ((j : ℕ) → j < k → ¬ Holds (copy_at j l)) →
    read_of (take (256 * k) l ++ (make_of g (drop (256 * k) l)).memory) ≡ Ok (found k (sizes_of g))

-- ---- damage

-- one byte of a page that holds, changed to any other: it does not hold any more
abbrev pub DamageSeen : Type 0
DamageSeen =
    (p : List ℕ) → Bytes p → length p ≡ 256 → Holds p → (i b : ℕ) → i < 256 → b < 256 → ¬ (b ≡ get_or p i 0) → ¬ Holds (set p i b)

-- three copies of a part's page outlive it: whatever one byte of the memory becomes, the part's own four numbers are read
abbrev pub OneByteLost : Type 0
OneByteLost =
    (g : Geometry) → Sound g → (l : List ℕ) → Bytes l → 768 ≤ length l → ((k : ℕ) → k < 3 → copy_at k l ≡ page_of g) →
    (i b : ℕ) → b < 256 → ((figures (read_of (set l i b))).refusal ≡ 0) × ((figures (read_of (set l i b))).sizes ≡ sizes_of g)
