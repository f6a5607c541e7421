-- Document 02, item 1: the parameter page and its maker.
use Rattle.std.specs.Prelude.{List, ◌++◌, ℕ, Result, Ok, Err, ltb, length, drop, if◌then◌else◌}
use Rattle.part.specs.Part.{sound_part}
use Rattle.part.specs.declared.Geometry.{Geometry}
use Rattle.crc.specs.Crc.{crc_of}
use Rattle.sheet.specs.Numbers.{low_first}
use Rattle.sheet.specs.Sheet.{sheet_of}
use Rattle.sheet.specs.declared.MakeError.{MakeError}
use Rattle.sheet.specs.declared.MakeError.TheVariants.{BadPart, NoRoom}

-- the 256 bytes: 003's table, and the check of bytes 0 to 253, low byte first
unfoldable pub page_of : Geometry → List ℕ
page_of g = sheet_of g ++ low_first 2 (crc_of (sheet_of g))

-- the numbers of refusal: 1 for a part that is not sound, 11 for memory shorter than 256 bytes
abbrev pub made_number : Result (Unit {0}) MakeError → ℕ
made_number (Ok t) = 0
made_number (Err BadPart) = 1
made_number (Err NoRoom) = 11

-- what the maker answers, and what the lent memory then holds
pub record MadeEnd : Type 0 where
  pub made : Result (Unit {0}) MakeError
  pub memory : List ℕ

-- the two together
abbrev pub made_end : Result (Unit {0}) MakeError → List ℕ → MadeEnd
made_end r memory = record { made = r; memory = memory }

-- the maker: 1, then 11, and nothing changed; else the page, and the bytes from 256 on as they were
unfoldable pub make_of : Geometry → List ℕ → MadeEnd
make_of g l =
    if sound_part g then
    (if ltb (length l) 256 then made_end (Err NoRoom) l else made_end (Ok tt) (page_of g ++ drop 256 l))
    else made_end (Err BadPart) l
