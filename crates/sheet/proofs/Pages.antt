-- The page: 254 bytes of the table and two of the check.
use mathlib.Core.List.{List, [], ◌++◌, append-nil}
use mathlib.Core.Path.{◌≡◌, refl}
use Prim.Native.Nat.{ℕ}
use native.Mathlib.Omega.{arith}
use lib.ListN.{length, take, drop, drop_of_length-le, length-append}
use lib.Seq.{take_at, drop_at}
use Rattle.part.specs.declared.Geometry.{Geometry}
use Rattle.crc.specs.Crc.{crc_of}
use Rattle.texts.specs.Text.{bytes as characters}
use Rattle.sheet.specs.Numbers.{low_first}
use Rattle.sheet.specs.Sheet.{bytes_in, sheet, laid, sheet_of}
use Rattle.sheet.specs.Page.{page_of}
use Rattle.sheet.proofs.Writing.{low_length}

-- the table has 254 bytes
pub sheet_length : (g : Geometry) → length (sheet_of g) ≡ 254
unfolding laid sheet bytes_in low_first characters
sheet_length g = refl

pub page_length : (g : Geometry) → length (page_of g) ≡ 256
unfolding page_of
page_length g = rw (length-append, sheet_length g, low_length)

-- the check is put behind the table
pub page-laid :
    (g : Geometry) (d : List ℕ) → length d ≡ 2 →
    take 254 (sheet_of g ++ d)
    ++ (low_first 2 (crc_of (take 254 (sheet_of g ++ d))) ++ drop 2 (drop 254 (sheet_of g ++ d)))
    ≡ sheet_of g ++ low_first 2 (crc_of (sheet_of g))
page-laid g d h =
    let drop_all : drop 2 d ≡ [] = drop_of_length-le d {i = 2} (omega arith) in
    rw (take_at (sheet_of g) d 254 (sheet_length g), drop_at (sheet_of g) d 254 (sheet_length g), drop_all, append-nil)
