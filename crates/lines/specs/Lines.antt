-- Document 01, "The replay program": the bytes of a record's line and of the last line, and how a line is put into lent memory.
use Rattle.std.specs.Prelude.{Option, Some, None, List, [], ◌∷◌, ◌++◌, ℕ, zero, suc, ◌+◌, ◌/◌, ◌%◌, ltb, length, drop, if◌then◌else◌}
use Rattle.buslog.specs.declared.Record.{Record}
use Rattle.buslog.specs.declared.Record.TheVariants.{Select, Shift, Deselect, Units, Level, Power}

-- a space, and the newline that ends a line
abbrev pub space : ℕ
space = 0x20

abbrev pub newline : ℕ
newline = 0x0A

-- ---- numbers in decimal

-- the character of a digit 0 to 9
abbrev pub digit : ℕ → ℕ
digit d = 0x30 + d

-- the last k decimal digits of a number, the highest first
unfoldable pub digits : ℕ → ℕ → List ℕ
digits zero n = []
digits (suc k) n = digits k (n / 10) ++ (digit (n % 10) ∷ [])

-- how many digits a number below 100,000 has
unfoldable pub places : ℕ → ℕ
places n =
    if ltb n 10 then 1
    else if ltb n 100 then 2
    else if ltb n 1000 then 3
    else if ltb n 10000 then 4
    else 5

-- a number in decimal, with no zero in front
unfoldable pub decimal : ℕ → List ℕ
decimal n = digits (places n) n

-- the same, then one character
abbrev pub decimal_then : ℕ → ℕ → List ℕ
decimal_then n last = decimal n ++ (last ∷ [])

-- ---- bytes in hex

-- a hex digit: 0 to 9, then the capitals A to F
unfoldable pub hex_digit : ℕ → ℕ
hex_digit d = if ltb d 10 then digit d else 0x37 + d

-- a byte in two hex capitals, the high digit first
unfoldable pub hex : ℕ → List ℕ
hex b = hex_digit (b / 16) ∷ hex_digit (b % 16) ∷ []

-- ---- the lines

-- the letter S, B, D, W, L or P for kinds 01h to 06h
abbrev pub letter_of : Record → ℕ
letter_of Select = 0x53
letter_of (Shift b) = 0x42
letter_of Deselect = 0x44
letter_of (Units n) = 0x57
letter_of (Level v) = 0x4C
letter_of Power = 0x50

-- the byte on DO, that only a shift has
abbrev pub do_of : Record → ℕ → Option ℕ
do_of Select d = None
do_of (Shift b) d = Some d
do_of Deselect d = None
do_of (Units n) d = None
do_of (Level v) d = None
do_of Power d = None

-- DO in two hex capitals, or -- for other kinds
abbrev pub do_text : Option ℕ → List ℕ
do_text None = 0x2D ∷ 0x2D ∷ []
do_text (Some d) = hex d

-- what stands behind the number: the letter, DO and the status register, and the newline
unfoldable pub fields_of : Record → Option ℕ → ℕ → List ℕ
fields_of e d status = letter_of e ∷ space ∷ (do_text d ++ (space ∷ (hex status ++ (newline ∷ []))))

-- the line of a record: its number, a space, and the fields
unfoldable pub line_of : ℕ → Record → Option ℕ → ℕ → List ℕ
line_of number e d status = decimal_then number space ++ fields_of e d status

-- `end` and a space
abbrev pub word : List ℕ
word = 0x65 ∷ 0x6E ∷ 0x64 ∷ space ∷ []

-- the last line: `end`, the refusal number, the records done
unfoldable pub end_of : ℕ → ℕ → List ℕ
end_of refusal records = word ++ decimal_then refusal space ++ decimal_then records newline

-- ---- a line in lent memory

-- the length that is answered, if it had room, and what the lent memory then holds
pub record Laid : Type 0 where
  pub count : Option ℕ
  pub out : List ℕ

abbrev pub laid : Option ℕ → List ℕ → Laid
laid count out = record { count = count; out = out }

-- a line at the front, the rest as it was; where the room is too short, none and not a byte changed
unfoldable pub laid_of : List ℕ → List ℕ → Laid
laid_of text out =
    if ltb (length out) (length text) then laid None out
    else laid (Some (length text)) (text ++ drop (length text) out)
