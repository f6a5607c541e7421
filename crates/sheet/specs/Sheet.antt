-- Document 02, item 1: bytes 0 to 253 of the parameter page, line by line as 003's Table 11 has them, but with the part's own D, S, K and
-- N.
use Rattle.std.specs.Prelude.{List, [], ◌∷◌, ◌++◌, ℕ, ◌-◌, length, replicate}
use Prim.Native.String.{String}
use Rattle.part.specs.Part.{no_part}
use Rattle.part.specs.declared.Geometry.{Geometry}
use Rattle.texts.specs.Text.{bytes as characters}
use Rattle.sheet.specs.Numbers.{low_first}

-- what stands in a field: bytes as 003 gives them, characters, a number of the part, or nothing but 00h
pub data Content : Type 0 where
  bytes : List ℕ → Content
  text : String → Content
  number : ℕ → Content
  zeros : Content

-- a line of the table: the place of a field, its length, what it is, and what stands in it
pub record Line : Type 0 where
  pub place : ℕ
  pub size : ℕ
  pub field : String
  pub content : Content

-- the four together
abbrev pub line : ℕ → ℕ → String → Content → Line
line place size field content = record { place = place; size = size; field = field; content = content }

-- the bytes of a field of so many: strings are padded with 20h, numbers have their low byte first
unfoldable pub bytes_in : ℕ → Content → List ℕ
bytes_in size (bytes bs) = bs
bytes_in size (text s) = characters s ++ replicate (size - length (characters s)) 0x20
bytes_in size (number n) = low_first size n
bytes_in size zeros = replicate size 0

-- the table
unfoldable pub sheet : Geometry → List Line
sheet g =
    line 0 4 "signature" (bytes (0x4F ∷ 0x4E ∷ 0x46 ∷ 0x49 ∷ []))
    ∷ line 4 2 "revision number" zeros
    ∷ line 6 2 "features supported" zeros
    ∷ line 8 2 "optional commands supported" (bytes (0x06 ∷ 0x00 ∷ []))
    ∷ line 10 22 "reserved" zeros
    ∷ line 32 12 "manufacturer" (text "FUDANMICRO")
    ∷ line 44 20 "model" (text "FM25S005BI3")
    ∷ line 64 1 "manufacturer's number" (bytes (0xA1 ∷ []))
    ∷ line 65 2 "date code" zeros
    ∷ line 67 13 "reserved" zeros
    ∷ line 80 4 "data bytes per page" (number g.main)
    ∷ line 84 2 "spare bytes per page" (number g.spare)
    ∷ line 86 6 "reserved" zeros
    ∷ line 92 4 "pages per block" (number g.pages)
    ∷ line 96 4 "blocks per unit" (number g.blocks)
    ∷ line 100 1 "units" (bytes (0x01 ∷ []))
    ∷ line 101 1 "address bytes" (bytes (0x00 ∷ []))
    ∷ line 102 1 "bits per cell" (bytes (0x01 ∷ []))
    ∷ line 103 2 "bad blocks per unit, at most" (bytes (0x0A ∷ 0x00 ∷ []))
    ∷ line 105 2 "block endurance" (bytes (0x05 ∷ 0x04 ∷ []))
    ∷ line 107 1 "guaranteed valid blocks at the beginning" (bytes (0x01 ∷ []))
    ∷ line 108 2 "endurance of guaranteed valid blocks" (bytes (0x00 ∷ 0x00 ∷ []))
    ∷ line 110 1 "programs per page" (bytes (0x04 ∷ []))
    ∷ line 111 1 "reserved" zeros
    ∷ line 112 1 "ECC bits" (bytes (0x00 ∷ []))
    ∷ line 113 1 "plane address bits" (bytes (0x00 ∷ []))
    ∷ line 114 1 "multi-plane operation" (bytes (0x00 ∷ []))
    ∷ line 115 13 "reserved" zeros
    ∷ line 128 1 "pin capacitance, at most" (bytes (0x08 ∷ []))
    ∷ line 129 4 "reserved" zeros
    ∷ line 133 2 "page program time in microseconds, at most" (bytes (0x84 ∷ 0x03 ∷ []))
    ∷ line 135 2 "block erase time in microseconds, at most" (bytes (0x10 ∷ 0x27 ∷ []))
    ∷ line 137 2 "page read time in microseconds, at most" (bytes (0x69 ∷ 0x00 ∷ []))
    ∷ line 139 25 "reserved" zeros
    ∷ line 164 2 "vendor's revision number" (bytes (0x00 ∷ 0x00 ∷ []))
    ∷ line 166 88 "vendor specific" zeros
    ∷ []

-- the bytes of lines, one after the other. (Promised of the table: each line stands at its place.)
unfoldable pub laid : List Line → List ℕ
laid [] = []
laid (l ∷ ls) = bytes_in l.size l.content ++ laid ls

-- bytes 0 to 253 of a part's page
abbrev pub sheet_of : Geometry → List ℕ
sheet_of g = laid (sheet g)

-- the same with 0 for the four numbers, which the code has as it stands and then writes them into
unfoldable pub unnumbered : List ℕ
unnumbered = sheet_of no_part
