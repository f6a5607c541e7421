-- Document 02, item 1: the three copies of the parameter page, and their reader.
use Rattle.std.specs.Prelude.{Bool, ◌&&◌, List, [], ◌∷◌, ◌≡◌, ℕ, ◌*◌, Result, Ok, Err, eqb, ltb, length, get_or, if◌then◌else◌}
use Rattle.part.specs.declared.Geometry.{Geometry}
use Rattle.crc.specs.Crc.{crc_of}
use Rattle.sheet.specs.Numbers.{number_in, stretch}
use Rattle.copies.specs.declared.Found.{Found}
use Rattle.copies.specs.declared.ReadError.{ReadError}
use Rattle.copies.specs.declared.ReadError.TheVariants.{NoCopy, TooShort}
use Rattle.copies.specs.declared.Sizes.{Sizes}

-- the copies 0, 1 and 2 begin at bytes 0, 256 and 512
abbrev pub copy_at : ℕ → List ℕ → List ℕ
copy_at k l = stretch (256 * k) 256 l

-- a copy holds if it has the signature, and the check of its bytes 0 to 253 at 254, low byte first
pub record Holds (p : List ℕ) : Type 0 where
  pub signature : stretch 0 4 p ≡ 0x4F ∷ 0x4E ∷ 0x46 ∷ 0x49 ∷ []
  pub check : number_in (stretch 254 2 p) ≡ crc_of (stretch 0 254 p)

-- the two as tests
unfoldable pub signed : List ℕ → Bool
signed p = eqb (get_or p 0 0) 0x4F && eqb (get_or p 1 0) 0x4E && eqb (get_or p 2 0) 0x46 && eqb (get_or p 3 0) 0x49

unfoldable pub checked : List ℕ → Bool
checked p = eqb (number_in (stretch 254 2 p)) (crc_of (stretch 0 254 p))

abbrev pub holds : List ℕ → Bool
holds p = signed p && checked p

-- the four numbers of a copy, as they stand
abbrev pub sizes_in : List ℕ → Sizes
sizes_in p = record { main = number_in (stretch 80 4 p); spare = number_in (stretch 84 2 p); pages = number_in (stretch 92 4 p); blocks = number_in (stretch 96 4 p) }

-- and of a part
abbrev pub sizes_of : Geometry → Sizes
sizes_of g = record { main = g.main; spare = g.spare; pages = g.pages; blocks = g.blocks }

-- copy k is found, and its numbers are s
abbrev pub found : ℕ → Sizes → Found
found k s = record { copy = k; sizes = s }

-- the reader: 11 for memory shorter than 768 bytes; else the first copy that holds, and 10 where none does
unfoldable pub read_of : List ℕ → Result Found ReadError
read_of l =
    if ltb (length l) 768 then Err TooShort
    else if holds (copy_at 0 l) then Ok (found 0 (sizes_in (copy_at 0 l)))
    else if holds (copy_at 1 l) then Ok (found 1 (sizes_in (copy_at 1 l)))
    else if holds (copy_at 2 l) then Ok (found 2 (sizes_in (copy_at 2 l)))
    else Err NoCopy

-- an answer in figures: the refusal, and the copy and its four numbers, which are 0 where it is refused
pub record Figures : Type 0 where
  pub refusal : ℕ
  pub copy : ℕ
  pub sizes : Sizes

-- no numbers
abbrev pub no_sizes : Sizes
no_sizes = record { main = 0; spare = 0; pages = 0; blocks = 0 }

-- the numbers of refusal: 10 where no copy holds, 11 for memory shorter than 768 bytes
abbrev pub figures : Result Found ReadError → Figures
figures (Ok f) = record { refusal = 0; copy = f.copy; sizes = f.sizes }
figures (Err NoCopy) = record { refusal = 10; copy = 0; sizes = no_sizes }
figures (Err TooShort) = record { refusal = 11; copy = 0; sizes = no_sizes }
