-- What is promised of the page and of its maker.
use Rattle.std.specs.Prelude.{List, [], ◌∷◌, ◌↔◌, ◌≡◌, ℕ, ◌≤◌, ◌<◌, length, take, drop}
use Rattle.part.specs.Part.{Sound}
use Rattle.part.specs.declared.Geometry.{Geometry}
use Rattle.crc.specs.Crc.{crc_of}
use Rattle.sheet.specs.Numbers.{low_first, stretch}
use Rattle.sheet.specs.Sheet.{Line, bytes_in, sheet}
use Rattle.sheet.specs.Page.{page_of, made_number, make_of}

-- ---- the page

-- each of some lines stands at its place in a page, as long as it says
abbrev pub Placed : List ℕ → List Line → Type 0
Placed p [] = Unit
Placed p (l ∷ ls) = (stretch l.place l.size p ≡ bytes_in l.size l.content) × Placed p ls

-- a page has 256 bytes: each line of 003's table at its place, and the check of bytes 0 to 253 at 254
pub record RightPage (g : Geometry) (p : List ℕ) : Type 0 where
  pub long : length p ≡ 256
  pub lines : Placed p (sheet g)
  pub check : stretch 254 2 p ≡ low_first 2 (crc_of (stretch 0 254 p))

-- so it is with the page of every part
abbrev pub PagesRight : Type 0
PagesRight = (g : Geometry) → RightPage g (page_of g)

-- ---- the maker

-- when it gives number n
pub data MakeLine (g : Geometry) (l : List ℕ) : ℕ → Type 0 where
  part_not_sound : ¬ Sound g → MakeLine g l 1
  too_short : Sound g → length l < 256 → MakeLine g l 11
  room : Sound g → 256 ≤ length l → MakeLine g l 0

-- it gives n if and only if line n holds
abbrev pub MakerExactly : Type 0
MakerExactly = (g : Geometry) (l : List ℕ) (n : ℕ) → made_number (make_of g l).made ≡ n ↔ MakeLine g l n

-- refused, it changes no byte; else bytes 0 to 255 are the part's page, and those from 256 on are as they were
abbrev pub MakerKeeps : Type 0
MakerKeeps =
    (g : Geometry) (l : List ℕ) →
    (¬ (made_number (make_of g l).made ≡ 0) → (make_of g l).memory ≡ l)
    × (made_number (make_of g l).made ≡ 0 →
    (take 256 (make_of g l).memory ≡ page_of g) × (drop 256 (make_of g l).memory ≡ drop 256 l) × (length (make_of g l).memory ≡ length l))
