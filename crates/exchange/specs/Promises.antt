-- What is promised of bytes exchanged: they are the run of their records, and a transfer that is cut off for want of room can be completed.
use Rattle.std.specs.Prelude.{true, false, ◌||◌, List, [], ◌∷◌, ◌++◌, ◌≡◌, ℕ, ◌≤◌, ◌<◌, eqb, length, take, drop, replicate}
use Rattle.part.specs.declared.Geometry.{Geometry}
use Rattle.buslog.specs.Log.{bytes_of, written, Bytes}
use Rattle.buslog.specs.declared.Record.TheVariants.{Select, Deselect}
use Rattle.registers.specs.Registers.{oip}
use Rattle.columns.specs.Columns.{column_of}
use Rattle.transfer.specs.Transfer.{ends}
use Rattle.device.specs.Machine.{Machine, over_bus}
use Rattle.device.specs.Work.{Array, unitwise}
use Rattle.device.specs.Step.{step, run}
use Rattle.cases.specs.RoundThePage.{answers_from}
use Rattle.refusals.specs.Refusals.{passed, checked_as}
use Rattle.refusals.specs.declared.Refusal.TheVariants.{Done, NoRoom}
use Rattle.model.specs.Runs.{bytes_out, did, run_of}
use Rattle.exchange.specs.Exchange.{shifts_of, transfer_of}

-- a piece with room for all its bytes: each of them is shifted, and nothing else is done
abbrev pub PieceDone : Type 0
PieceDone =
    (g : Geometry) (arr : Array) (m : Machine) (room : ℕ) (di : List ℕ) → passed (checked_as g m) ≡ true → length di ≤ room →
    run_of g arr room (written (shifts_of di)) m ≡ did g arr m Done (shifts_of di)

-- a transfer with room for all its bytes: it is selected, each of them is shifted, and it is deselected
abbrev pub TransferDone : Type 0
TransferDone =
    (g : Geometry) (arr : Array) (m : Machine) (room : ℕ) (di : List ℕ) → passed (checked_as g m) ≡ true → length di ≤ room →
    run_of g arr room (written (transfer_of di)) m ≡ did g arr m Done (transfer_of di)

-- a transfer with room for r bytes only: it is 9, r bytes are done, the chip stays selected, and the bytes left and a deselect complete it
abbrev pub CutOff : Type 0
CutOff =
    (g : Geometry) (arr : Array) (m : Machine) (di : List ℕ) (r : ℕ) → passed (checked_as g m) ≡ true → r < length di →
    let o = run_of g arr r (written (transfer_of di)) m in
    (o ≡ did g arr m NoRoom (Select ∷ shifts_of (take r di)))
    × (length o.output ≡ r)
    × (o.machine.state.bus.transfer.selected ≡ true)
    × (run g arr m (transfer_of di) ≡ step g arr (run g arr o.machine (shifts_of (drop r di))) Deselect)
    × (bytes_out g arr m (transfer_of di) ≡ o.output ++ bytes_out g arr o.machine (shifts_of (drop r di)))

-- so it is with the calls themselves: the one for the bytes left and the one for the deselect are not refused, and together the three end,
-- and put out, as the whole transfer does
abbrev pub Completes : Type 0
Completes =
    (g : Geometry) (m : Machine) (di : List ℕ) (r : ℕ) → Bytes di → passed (checked_as g m) ≡ true → r < length di →
    let o = run_of g (unitwise g) r (written (transfer_of di)) m in
    let p = run_of g (unitwise g) (length (drop r di)) (written (shifts_of (drop r di))) o.machine in
    let q = run_of g (unitwise g) 0 (bytes_of Deselect) p.machine in
    let w = run_of g (unitwise g) (length di) (written (transfer_of di)) m in
    (p.refusal ≡ Done) × (q.refusal ≡ Done) × (q.machine ≡ w.machine) × (o.output ++ p.output ≡ w.output)

-- on a chip that is selected already, the select of a transfer changes nothing: its bytes go on with the transfer that has begun
abbrev pub GoesOn : Type 0
GoesOn =
    (g : Geometry) (arr : Array) (m : Machine) (di : List ℕ) → m.state.bus.transfer.selected ≡ true →
    run g arr m (transfer_of di) ≡ run g arr m (shifts_of di ++ (Deselect ∷ []))

-- a whole cache read of however many bytes, by either code, in one call with room for it, on an idle chip that is not selected: it is done,
-- nothing of the machine has changed but the transfer's end, and behind four bytes FFh its answers go round the page (document 02, item 6)
abbrev pub ReadOut : Type 0
ReadOut =
    (g : Geometry) (arr : Array) (m : Machine) (room k high low idle : ℕ) (di : List ℕ) → passed (checked_as g m) ≡ true
    → m.state.bus.transfer.selected ≡ false → oip m.state.regs.c0 ≡ false → (eqb k 0x03 || eqb k 0x0B) ≡ true →
    let bytes = k ∷ high ∷ low ∷ idle ∷ di in
    length bytes ≤ room →
    let o = run_of g arr room (written (transfer_of bytes)) m in
    (o.refusal ≡ Done)
    × (o.machine ≡ over_bus ends m)
    × (o.output ≡ replicate 4 0xFF ++ answers_from g m.store.cache (column_of high low).0 (length di))
