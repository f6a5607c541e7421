-- Document 01, "Instructions": chip select, and what a byte shifted in does to the transfer and to the cache register.
use Rattle.std.specs.Prelude.{Bool, true, false, not, ◌&&◌, ◌||◌, List, ℕ, ◌+◌, ◌*◌, min, leb, eqb, length, set, replicate, if◌then◌else◌}
use Rattle.part.specs.Part.{page}
use Rattle.part.specs.declared.Geometry.{Geometry}
use Rattle.part.specs.declared.Row.{Row}
use Rattle.part.specs.declared.Column.{Column}
use Rattle.registers.specs.declared.Pins.{Pins}
use Rattle.codes.specs.Codes.{byte_of, heard_as, form_bytes}
use Rattle.codes.specs.declared.Instruction.TheVariants.{Ignored}
use Rattle.columns.specs.Columns.{next, next_read, column_of}
use Rattle.transfer.specs.declared.Transfer.{Transfer}
use Rattle.transfer.specs.declared.Bus.{Bus}

-- ---- the instruction

-- it is that of a byte
abbrev pub is : Transfer → ℕ → Bool
is t b = eqb (byte_of t.instruction) b

-- exactly its bytes were shifted
abbrev pub full : Transfer → Bool
full t = eqb t.count (form_bytes t.instruction)

-- ---- the bus with one part of it changed

abbrev pub with_transfer : Transfer → Bus → Bus
with_transfer t x = record { pins = x.pins; transfer = t }

abbrev pub with_pins : Pins → Bus → Bus
with_pins p x = record { pins = p; transfer = x.transfer }

-- ---- chip select

-- a transfer just begun, or just over: nothing of the last one is left
abbrev pub fresh : Bool → Transfer
fresh on = record { selected = on; count = 0; instruction = Ignored; first = 0; second = 0; third = 0; column = record { 0 = 0 } }

-- chip select falls; while selected it changes nothing
unfoldable pub selects : Bus → Bus
selects x = with_transfer (if x.transfer.selected then x.transfer else fresh true) x

-- chip select has risen
abbrev pub ends : Bus → Bus
ends x = with_transfer (fresh false) x

-- ---- a byte shifted in: n is the number of bytes before it in the transfer

-- the count stays at 5 from the fifth byte on
abbrev pub more : ℕ → ℕ
more n = min 5 (n + 1)

-- a row address: three bytes, of which the first is ignored, then high and low byte
abbrev pub row_of : Transfer → Row
row_of t = record { 0 = t.second * 256 + t.third }

-- for an instruction with a column: the bytes before the first one that moves the column on (03h and 0Bh have an idle byte); else none
abbrev pub column_bytes : Transfer → ℕ
column_bytes t = if is t 0x03 then 4 else if is t 0x02 || is t 0x84 then 3 else 0

-- the next column after a byte that moves it on: 03h and 0Bh read round the page, 02h and 84h load on past its end
abbrev pub column_on : Geometry → Transfer → Column
column_on g t = if is t 0x03 then next_read (page g) t.column else next t.column

-- the next column after byte b
abbrev pub column_after : Geometry → ℕ → Transfer → Column
column_after g b t =
    let n = t.count in
    let k = column_bytes t in
    if eqb k 0 then t.column
    else if eqb n 2 then column_of t.first b
    else if leb k n then column_on g t
    else t.column

-- the first byte is the instruction
abbrev pub instructed : Bool → ℕ → Transfer → Transfer
instructed busy b t =
    record {
      selected = t.selected;
      count = 1;
      instruction = heard_as busy b;
      first = t.first;
      second = t.second;
      third = t.third;
      column = t.column;
    }

-- a later byte is kept as it came, and counted
abbrev pub later : Geometry → ℕ → Transfer → Transfer
later g b t =
    let n = t.count in
    record {
      selected = t.selected;
      count = more n;
      instruction = t.instruction;
      first = if eqb n 1 then b else t.first;
      second = if eqb n 2 then b else t.second;
      third = if eqb n 3 then b else t.third;
      column = column_after g b t;
    }

-- a byte shifted is heard while the chip is selected
abbrev pub heard : Bus → Bool
heard x = x.transfer.selected

unfoldable pub shifted_in : Geometry → Bool → ℕ → Bus → Bus
shifted_in g busy b x =
    let t = x.transfer in
    if heard x then with_transfer (if eqb t.count 0 then instructed busy b t else later g b t) x else x

-- ---- what a byte shifted does to the cache register

-- a byte after the instruction is heard
abbrev pub body_heard : Bus → Bool
body_heard x = heard x && not (eqb x.transfer.count 0)

-- data is stored from the column on, and dropped past P
abbrev pub stored : ℕ → Transfer → List ℕ → List ℕ
stored b t l = if leb 3 t.count then set l t.column.0 b else l

-- 02h: with the second column byte the whole cache becomes FFh, then data; 84h: the same without the FFh
unfoldable pub cached : Geometry → Bus → ℕ → List ℕ → List ℕ
cached g x b l =
    let t = x.transfer in
    if not (body_heard x) then l
    else if is t 0x02 then if eqb t.count 2 then replicate (length l) 0xFF else stored b t l
    else if is t 0x84 then stored b t l
    else l
