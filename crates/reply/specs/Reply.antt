-- Document 01, "Instructions": the byte on DO, FFh wherever no answer is named.
use Rattle.std.specs.Prelude.{not, List, ℕ, leb, eqb, if◌then◌else◌}
use Rattle.part.specs.declared.Geometry.{Geometry}
use Rattle.registers.specs.Registers.{register}
use Rattle.registers.specs.declared.Registers.{Registers}
use Rattle.columns.specs.Columns.{cache_byte}
use Rattle.transfer.specs.Transfer.{is, body_heard}
use Rattle.transfer.specs.declared.Bus.{Bus}

-- from the byte that has k before it on
abbrev pub from : ℕ → ℕ → ℕ → ℕ
from k n x = if leb k n then x else 0xFF

-- 0Fh: each byte after the address answers the register's present value; 9Fh: after one idle byte the two identity bytes; 03h and 0Bh:
-- after the column and one idle byte the cache byte at the next column, FFh past the page
abbrev pub byte_out : Geometry → Registers → Bus → List ℕ → ℕ
byte_out g r x cache =
    let t = x.transfer in
    let n = t.count in
    if not (body_heard x) then 0xFF
    else if is t 0x0F then from 2 n (register r t.first)
    else if is t 0x9F then if eqb n 2 then g.id0 else if eqb n 3 then g.id1 else 0xFF
    else if is t 0x03 then from 4 n (cache_byte cache t.column)
    else 0xFF
