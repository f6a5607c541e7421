-- A whole cache read in one call, proved from what its bytes do one after another.
use mathlib.Core.List.{List, [], ◌∷◌, ◌++◌, map, append-nil}
use mathlib.Core.Path.{◌≡◌, refl, ap, ◌∙◌}
use Prim.Native.Nat.{ℕ}
use Rattle.part.specs.declared.Geometry.{Geometry}
use Rattle.buslog.specs.declared.Record.{Record}
use Rattle.buslog.specs.declared.Record.TheVariants.{Select, Shift, Deselect}
use Rattle.transfer.specs.Transfer.{selects}
use Rattle.device.specs.Machine.{Machine, over_bus}
use Rattle.device.specs.Work.{Array}
use Rattle.device.specs.Instructions.{replies}
use Rattle.device.specs.Step.{step, run}
use Rattle.cases.proofs.RoundThePage.{read_sent}
use Rattle.refusals.proofs.Checked.{passed_sound}
use Rattle.model.specs.Runs.{bytes_out}
use Rattle.model.proofs.Rooms.{out_parts}
use Rattle.exchange.specs.Exchange.{shifts_of, transfer_of}
use Rattle.exchange.specs.Promises.{ReadOut}
use Rattle.exchange.proofs.Pieces.{transfer_done}
use Rattle.exchange.proofs.Records.{out_replies}

-- the records are those of an instruction sent
shifts_map : (di : List ℕ) → shifts_of di ≡ map Shift di
unfolding shifts_of
shifts_map [] = refl
shifts_map (b ∷ di) = ap {B = List Record} (λ l. Shift b ∷ l) (shifts_map di)

-- a transfer puts out what its bytes are answers_to by
transfer_out : (g : Geometry) (arr : Array) (m : Machine) (di : List ℕ) → bytes_out g arr m (transfer_of di) ≡ replies g di (over_bus selects m)
unfolding bytes_out step
transfer_out g arr m di =
    out_parts g arr (shifts_of di) (Deselect ∷ []) (over_bus selects m)
    ∙ append-nil (bytes_out g arr (over_bus selects m) (shifts_of di)) ∙ out_replies g arr di (over_bus selects m)

pub read_out : ReadOut
read_out g arr m room k high low idle di ok off o e h =
    let bytes = k ∷ high ∷ low ∷ idle ∷ di in
    let s = passed_sound g m ok in
    let r = read_sent g arr m k high low idle di (s.0, s.1.fits.cache_long) off o e in
    rw (transfer_done g arr m room bytes ok h)
    (refl, ap (λ (es : List Record). run g arr m (Select ∷ (es ++ (Deselect ∷ [])))) (shifts_map bytes) ∙ r.1, transfer_out g arr m bytes ∙ r.0)
