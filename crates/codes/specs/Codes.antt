-- Document 01, "Instructions": the codes, and how many bytes an instruction takes that acts as chip select rises.
use Rattle.std.specs.Prelude.{Bool, not, ◌&&◌, ◌||◌, ℕ, eqb, if◌then◌else◌}
use Rattle.codes.specs.declared.Instruction.{Instruction}
use Rattle.codes.specs.declared.Instruction.TheVariants.{Ignored, WriteEnable, WriteDisable, GetFeature, SetFeature, ReadId, PageRead, ReadCache, Load, LoadRandom, Execute, BlockErase, Reset}

-- no byte: it stands for what is ignored
abbrev pub no_byte : ℕ
no_byte = 256

-- the paper's byte of an instruction (03h and 0Bh are one)
abbrev pub byte_of : Instruction → ℕ
byte_of Ignored = no_byte
byte_of WriteEnable = 0x06
byte_of WriteDisable = 0x04
byte_of GetFeature = 0x0F
byte_of SetFeature = 0x1F
byte_of ReadId = 0x9F
byte_of PageRead = 0x13
byte_of ReadCache = 0x03
byte_of Load = 0x02
byte_of LoadRandom = 0x84
byte_of Execute = 0x10
byte_of BlockErase = 0xD8
byte_of Reset = 0xFF

-- the instruction of a byte; unknown ones are ignored
unfoldable pub instruction_of : ℕ → Instruction
instruction_of b =
    if eqb b 0x06 then WriteEnable
    else if eqb b 0x04 then WriteDisable
    else if eqb b 0x0F then GetFeature
    else if eqb b 0x1F then SetFeature
    else if eqb b 0x9F then ReadId
    else if eqb b 0x13 then PageRead
    else if eqb b 0x03 || eqb b 0x0B then ReadCache
    else if eqb b 0x02 then Load
    else if eqb b 0x84 then LoadRandom
    else if eqb b 0x10 then Execute
    else if eqb b 0xD8 then BlockErase
    else if eqb b 0xFF then Reset
    else Ignored

-- the instructions that a busy array does not shut out
abbrev pub open? : ℕ → Bool
open? b = eqb b 0x0F || eqb b 0x9F || eqb b 0xFF

-- the instruction that a first byte begins: if OIP is 1, all but 0Fh, 9Fh and FFh are ignored
abbrev pub heard_as : Bool → ℕ → Instruction
heard_as busy b = if busy && not (open? b) then Ignored else instruction_of b

-- the bytes of an instruction that acts as chip select rises; the others have nothing to do then
abbrev pub form_bytes : Instruction → ℕ
form_bytes WriteEnable = 1
form_bytes WriteDisable = 1
form_bytes SetFeature = 3
form_bytes PageRead = 4
form_bytes Execute = 4
form_bytes BlockErase = 4
form_bytes Reset = 1
form_bytes Ignored = 0
form_bytes GetFeature = 0
form_bytes ReadId = 0
form_bytes ReadCache = 0
form_bytes Load = 0
form_bytes LoadRandom = 0
