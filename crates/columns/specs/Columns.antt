-- Document 01, "Instructions": the next column, the column of an address, and the byte of the cache register at a column.
use Rattle.std.specs.Prelude.{List, ℕ, ◌+◌, ◌*◌, ◌%◌, min, eqb, get_or, if◌then◌else◌}
use Rattle.part.specs.declared.Column.{Column}

-- the next column stays at 4,096 once reached
abbrev pub next : Column → Column
next c = record { 0 = min 4096 (c.0 + 1) }

-- the next column of a read, on a page of p bytes: behind the last one it is 0; one past the page stays past it (document 02, item 6)
abbrev pub next_read : ℕ → Column → Column
next_read p c = if eqb (c.0 + 1) p then record { 0 = 0 } else next c

-- a column address: two bytes, high first, top four bits ignored
abbrev pub column_of : ℕ → ℕ → Column
column_of high low = record { 0 = high % 16 * 256 + low }

-- the byte at a column of the cache register: FFh at a column past the page
abbrev pub cache_byte : List ℕ → Column → ℕ
cache_byte l c = get_or l c.0 0xFF
