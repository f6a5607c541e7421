-- Bytes exchanged on the bus: the records that they are, and what they do one after another.
use Rattle.std.specs.Prelude.{List, [], ◌∷◌, ◌++◌, ◌≡◌, ℕ, length, drop}
use Rattle.part.specs.declared.Geometry.{Geometry}
use Rattle.buslog.specs.declared.Record.{Record}
use Rattle.buslog.specs.declared.Record.TheVariants.{Select, Shift, Deselect}
use Rattle.device.specs.Machine.{Machine, on_cache}
use Rattle.device.specs.Instructions.{fed, replies}
use Rattle.device.specs.declared.State.{State}
use Rattle.model.specs.Runs.{End, seen}

-- ---- the records

-- a shift for each byte
unfoldable pub shifts_of : List ℕ → List Record
shifts_of [] = []
shifts_of (b ∷ bs) = Shift b ∷ shifts_of bs

-- a whole transfer: chip select falls, the bytes, chip select rises
abbrev pub transfer_of : List ℕ → List Record
transfer_of di = Select ∷ (shifts_of di ++ (Deselect ∷ []))

-- what a run leaves, where no log was lent: none of its bytes was used
abbrev pub unlogged : End → End
unlogged e =
    seen
    (record { refusal = e.answer.refusal; state = e.answer.state; records = e.answer.records; used = 0; written = e.answer.written })
    e.cells
    e.cache
    e.counts
    e.out

-- ---- byte after byte

-- bytes exchanged, from a state and a cache register on, whatever else the machine holds: what is then there, and the output with
-- their answers at its front
pub record Exchanged (g : Geometry) (s : State) (cache di out : List ℕ) (s₁ : State) (cache₁ out₁ : List ℕ) : Type 0 where
  pub after : (m : Machine) → on_cache s₁ cache₁ m ≡ fed g di (on_cache s cache m)
  pub lies : (m : Machine) → out₁ ≡ replies g di (on_cache s cache m) ++ drop (length di) out
