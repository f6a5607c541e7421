-- A stream of shifts: once the fifth byte of a transfer has come, a shift of 03h, 02h or 84h moves the next column on, and changes
-- nothing else but the cache.
use Rattle.std.specs.Prelude.{Bool, true, false, ◌&&◌, ◌||◌, List, ◌≡◌, ℕ, ◌+◌, ◌*◌, ◌≤◌, ◌<◌, ltb, leb, eqb, length, get_or, set}
use Rattle.part.specs.Part.{page}
use Rattle.part.specs.declared.Column.{Column}
use Rattle.part.specs.declared.Geometry.{Geometry}
use Rattle.transfer.specs.Transfer.{is, with_transfer, heard}
use Rattle.transfer.specs.declared.Bus.{Bus}
use Rattle.transfer.specs.declared.Transfer.{Transfer}
use Rattle.device.specs.Machine.{Machine, on_cache, bus_in}
use Rattle.device.specs.Instructions.{answer, shifts}
use Rattle.device.specs.declared.State.{State}
use Rattle.stream.specs.declared.Stream.{Stream}

-- ---- the transfer

-- a byte shifted is heard, and the count stays at 5
pub record Past (x : Bus) : Type 0 where
  pub listens : heard x ≡ true
  pub counted : x.transfer.count ≡ 5

-- 02h and 84h load the cache register
abbrev pub loading : Transfer → Bool
loading t = is t 0x02 || is t 0x84

-- a bus in a stream: the fifth byte of its transfer has come, and it reads or loads the cache register
abbrev pub streams : Bus → Bool
streams x = heard x && eqb x.transfer.count 5 && (is x.transfer 0x03 || loading x.transfer)

-- the column is in the page, the cache register as long as the page, and the page no longer than a sound part's: in a run the last two hold
-- always
pub record InPage (g : Geometry) (cache : List ℕ) (c : Column) : Type 0 where
  pub below : c.0 < page g
  pub long : length cache ≡ page g
  pub small : page g ≤ 4096

-- the same as a test
abbrev pub in_page : Geometry → List ℕ → Column → Bool
in_page g cache c = eqb (length cache) (page g) && leb (page g) 4096 && ltb c.0 (page g)

-- the state with another next column
abbrev pub at_column : Column → State → State
at_column c s =
    let t = s.bus.transfer in
    bus_in
    (with_transfer
    (record { selected = t.selected; count = t.count; instruction = t.instruction; first = t.first; second = t.second; third = t.third; column = c })
    s.bus)
    s

-- ---- the records

-- a shift, its byte with it, stands at a place of the log
pub record ShiftAt (log : List ℕ) (place : ℕ) : Type 0 where
  pub inside : place + 2 ≤ length log
  pub kind : get_or log place 0 ≡ 0x02

-- the byte that it shifts in
abbrev pub byte_in : List ℕ → ℕ → ℕ
byte_in log place = get_or log (place + 1) 0

-- k shifts done one after another, from a place of the log and a place of the output on: the machine and the output then
pub data Shifted (g : Geometry) (log : List ℕ) (at written : ℕ) (m₀ : Machine) (out₀ : List ℕ) : ℕ → Machine → List ℕ → Type 0 where
  none : Shifted g log at written m₀ out₀ 0 m₀ out₀
  more : {k : ℕ} {m : Machine} {out : List ℕ} → Shifted g log at written m₀ out₀ k m out → ShiftAt log (at + 2 * k) → written + k < length out
      → Shifted g log at written m₀ out₀ (k + 1) (shifts g (byte_in log (at + 2 * k)) m) (set out (written + k) (answer g m.state m.store.cache))

-- behind k shifts another one stands in the log, and the output has room for it
abbrev pub Follows : List ℕ → ℕ → ℕ → List ℕ → ℕ → Type 0
Follows log at written out k = ShiftAt log (at + 2 * k) × (written + k < length out)

-- no shift
abbrev pub no_shift : State → Stream
no_shift s = record { state = s; count = 0 }

-- what a stream does from a state on: shifts, whatever else the machine holds; all that follow where the bus is in a stream, and none
-- where it is not
pub record Streamed (g : Geometry) (s : State) (log : List ℕ) (at written : ℕ) (cache out : List ℕ) (r : Stream) (cache₁ out₁ : List ℕ) : Type 0 where
  pub done : (m : Machine) → Shifted g log at written (on_cache s cache m) out r.count (on_cache r.state cache₁ m) out₁
  pub all : streams s.bus ≡ true → Follows log at written out r.count → ⊥
  pub still : streams s.bus ≡ false → r.count ≡ 0
