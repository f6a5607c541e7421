-- The promises of bytes exchanged, proved: pieces, whole transfers, and transfers that are cut off and go on.
use mathlib.Core.Bool.{Bool, true, false, cond}
use mathlib.Core.List.{List, [], ◌∷◌, ◌++◌, append-nil}
use mathlib.Core.Path.{◌≡◌, refl, sym, ap, ◌∙◌}
use Prim.Native.Nat.{ℕ, suc, ◌≤◌, ◌<◌}
use native.Mathlib.Nat.{zero-add}
use native.Mathlib.Omega.{arith}
use lib.Dec.{T, eqb}
use lib.ListN.{length, take, drop, take-append-drop}
use lib.Seq.{length-take-le}
use borrow.Author.Tests.{lt-ltb, le-ltb}
use Rattle.part.specs.Part.{Sound}
use Rattle.part.specs.declared.Geometry.{Geometry}
use Rattle.buslog.specs.Log.{bytes_of, written, levels_sound, Bytes}
use Rattle.buslog.specs.declared.Record.{Record}
use Rattle.buslog.specs.declared.Record.TheVariants.{Select, Shift, Deselect}
use Rattle.buslog.proofs.Logs.{parse_written, drop_bytes}
use Rattle.registers.specs.Registers.{oip}
use Rattle.transfer.specs.Transfer.{fresh, heard, instructed, later, selects, shifted_in, with_transfer}
use Rattle.transfer.specs.declared.Bus.{Bus}
use Rattle.device.specs.Machine.{Machine, over_bus}
use Rattle.device.specs.Work.{Array, unitwise}
use Rattle.device.specs.Instructions.{shifts}
use Rattle.device.specs.Step.{step, run}
use Rattle.kept.specs.Kept.{SoundMachine, BytesIn}
use Rattle.kept.proofs.Steps.{run_keeps}
use Rattle.refusals.specs.Refusals.{passed, checked_as}
use Rattle.refusals.proofs.Checked.{passed_sound}
use Rattle.refusals.specs.declared.Refusal.TheVariants.{Done, NoRoom}
use Rattle.model.specs.Runs.{shifts_in, fitting, bytes_out, did, ran_of, run_of}
use Rattle.model.proofs.Rooms.{fitting_all, out_length, out_parts, run_parts}
use Rattle.answers.proofs.Checks.{checked_only}
use Rattle.answers.proofs.Parts.{fine_of}
use Rattle.exchange.specs.Exchange.{shifts_of, transfer_of}
use Rattle.exchange.specs.Promises.{PieceDone, TransferDone, CutOff, Completes, GoesOn}
use Rattle.exchange.proofs.Records.{levels_alone, levels_transfer, shifts_many, take_bytes, transfer_fitting, transfer_shifts}

-- ---- the run of records that were written, its checks passed

module _ (g : Geometry) (arr : Array) (m : Machine) (room : ℕ) (es : List Record) (ok : passed (checked_as g m) ≡ true) (h : T (levels_sound es)) where
  -- all of them, where they have room
  ran_all : shifts_in es ≤ room → run_of g arr room (written es) m ≡ did g arr m Done es
  unfolding run_of ran_of
  ran_all k = rw (ok, parse_written es h, le-ltb room (shifts_in es) k, fitting_all room es k)

  -- those that fit, where they do not
  ran_some : (fit : List Record) → room < shifts_in es → fitting room es ≡ fit → run_of g arr room (written es) m ≡ did g arr m NoRoom fit
  unfolding run_of ran_of
  ran_some fit k f = rw (ok, parse_written es h, lt-ltb room (shifts_in es) k, f)

pub piece_done : PieceDone
piece_done g arr m room di ok k = ran_all g arr m room (shifts_of di) ok (levels_alone di) (omega (arith, shifts_many di))

pub transfer_done : TransferDone
transfer_done g arr m room di ok k = ran_all g arr m room (transfer_of di) ok (levels_transfer di) (omega (arith, transfer_shifts di))

-- ---- the chip stays selected

-- once chip select has fallen
select_on : (x : Bus) → (selects x).transfer.selected ≡ true
unfolding selects
select_on x = go x.transfer.selected refl
  where
    go : (b : Bool) → x.transfer.selected ≡ b → (cond b x.transfer (fresh true)).selected ≡ true
    go true e = e
    go false e = refl

-- and while bytes are shifted
shift_on : (g : Geometry) (busy : Bool) (b : ℕ) (x : Bus) → (shifted_in g busy b x).transfer.selected ≡ x.transfer.selected
unfolding shifted_in
shift_on g busy b x = go (heard x) (eqb x.transfer.count 0)
  where
    go : (a d : Bool) → (cond a (with_transfer (cond d (instructed busy b x.transfer) (later g b x.transfer)) x) x).transfer.selected ≡ x.transfer.selected
    go true true = refl
    go true false = refl
    go false d = refl

-- a select while it is selected changes nothing
select_again : (x : Bus) → x.transfer.selected ≡ true → selects x ≡ x
unfolding selects
select_again x e = rw e

module _ (g : Geometry) (arr : Array) where
  shifts_on : (di : List ℕ) (m : Machine) → (run g arr m (shifts_of di)).state.bus.transfer.selected ≡ m.state.bus.transfer.selected
  unfolding shifts_of run step shifts
  shifts_on [] m = refl
  shifts_on (b ∷ di) m = shifts_on di (shifts g b m) ∙ shift_on g (oip m.state.regs.c0) b m.state.bus

pub goes_on : GoesOn
unfolding run step
goes_on g arr m di e = ap (λ (x : Bus). run g arr (over_bus (λ y. x) m) (shifts_of di ++ (Deselect ∷ []))) (select_again m.state.bus e)

-- ---- a transfer that is cut off

-- bytes are some of them and then the rest
shifts_parts : (a b : List ℕ) → shifts_of (a ++ b) ≡ shifts_of a ++ shifts_of b
unfolding shifts_of
shifts_parts [] b = refl
shifts_parts (x ∷ a) b = ap {B = List Record} (λ l. Shift x ∷ l) (shifts_parts a b)

shifts_split : (r : ℕ) (di : List ℕ) → shifts_of di ≡ shifts_of (take r di) ++ shifts_of (drop r di)
shifts_split r di = ap shifts_of (sym (take-append-drop r di)) ∙ shifts_parts (take r di) (drop r di)

module _ (g : Geometry) (arr : Array) (m : Machine) (di : List ℕ) (r : ℕ) where
  -- the machine with the first r bytes done
  abbrev cut : Machine
  cut = run g arr m (Select ∷ shifts_of (take r di))

  cut_on : cut.state.bus.transfer.selected ≡ true
  unfolding run step
  cut_on = shifts_on g arr (take r di) (over_bus selects m) ∙ select_on m.state.bus

  -- the bytes left and a deselect
  completes : run g arr m (transfer_of di) ≡ step g arr (run g arr cut (shifts_of (drop r di))) Deselect
  unfolding run
  completes =
      run_parts g arr (shifts_of di) (Deselect ∷ []) (step g arr m Select)
      ∙ ap (λ (x : Machine). step g arr x Deselect)
      (ap (run g arr (step g arr m Select)) (shifts_split r di) ∙ run_parts g arr (shifts_of (take r di)) (shifts_of (drop r di)) (step g arr m Select))

  -- and what they put out
  completes_out : bytes_out g arr m (transfer_of di) ≡ bytes_out g arr m (Select ∷ shifts_of (take r di)) ++ bytes_out g arr cut (shifts_of (drop r di))
  unfolding run bytes_out
  completes_out =
      out_parts g arr (shifts_of di) (Deselect ∷ []) (step g arr m Select)
      ∙ append-nil (bytes_out g arr (step g arr m Select) (shifts_of di))
      ∙ ap (bytes_out g arr (step g arr m Select)) (shifts_split r di)
      ∙ out_parts g arr (shifts_of (take r di)) (shifts_of (drop r di)) (step g arr m Select)

  -- a byte for each of the first r
  cut_long : r < length di → length (bytes_out g arr m (Select ∷ shifts_of (take r di))) ≡ r
  unfolding shifts_in
  cut_long h =
      out_length g arr (Select ∷ shifts_of (take r di)) m
      ∙ zero-add (shifts_in (shifts_of (take r di))) ∙ shifts_many (take r di) ∙ length-take-le r di (omega arith)

pub cut_off : CutOff
cut_off g arr m di r ok h =
    let e : run_of g arr r (written (transfer_of di)) m ≡ did g arr m NoRoom (Select ∷ shifts_of (take r di)) =
    ran_some g arr m r (transfer_of di) ok (levels_transfer di) (Select ∷ shifts_of (take r di)) (omega (arith, transfer_shifts di)) (transfer_fitting r di h) in
    rw e (refl, cut_long g arr m di r h, cut_on g arr m di r, completes g arr m di r, completes_out g arr m di r)

-- ---- the three calls

-- shifts of bytes carry bytes
bytes_in : (l : List ℕ) → Bytes l → BytesIn (shifts_of l)
unfolding shifts_of
bytes_in [] b = tt
bytes_in (x ∷ l) b = (b 0, bytes_in l (λ i. b (suc i)))

-- a sound machine on a sound part passes the checks
passes_sound : (g : Geometry) → Sound g → (m : Machine) → SoundMachine g m → passed (checked_as g m) ≡ true
passes_sound g s m h = ap passed (checked_only g m Done (fine_of g m s h))

module _ (g : Geometry) (m : Machine) (di : List ℕ) (r : ℕ) (b : Bytes di) (ok : passed (checked_as g m) ≡ true) where
  -- the machine is sound where the transfer is cut off
  cut_sound : SoundMachine g (cut g (unitwise g) m di r)
  cut_sound = let s = passed_sound g m ok in run_keeps g s.0 m (Select ∷ shifts_of (take r di)) (tt, bytes_in (take r di) (take_bytes r di b)) s.1

  -- and behind the bytes that are left
  abbrev rest : Machine
  rest = run g (unitwise g) (cut g (unitwise g) m di r) (shifts_of (drop r di))

  rest_sound : SoundMachine g rest
  rest_sound = run_keeps g (passed_sound g m ok).0 (cut g (unitwise g) m di r) (shifts_of (drop r di)) (bytes_in (drop r di) (drop_bytes r di b)) cut_sound

  -- the second call
  second : run_of g (unitwise g) (length (drop r di)) (written (shifts_of (drop r di))) (cut g (unitwise g) m di r) ≡ did g (unitwise g) (cut g (unitwise g) m di r) Done (shifts_of (drop r di))
  second =
      piece_done g (unitwise g) (cut g (unitwise g) m di r) (length (drop r di)) (drop r di)
      (passes_sound g (passed_sound g m ok).0 (cut g (unitwise g) m di r) cut_sound) (omega arith)

  -- the third
  third : run_of g (unitwise g) 0 (bytes_of Deselect) rest ≡ did g (unitwise g) rest Done (Deselect ∷ [])
  unfolding written shifts_in levels_sound
  third = ran_all g (unitwise g) rest 0 (Deselect ∷ []) (passes_sound g (passed_sound g m ok).0 rest rest_sound) tt (omega arith)

pub completes_calls : Completes
unfolding run
completes_calls g m di r b ok h =
    rw ((cut_off g (unitwise g) m di r ok h).0, second g m di r b ok, third g m di r b ok, transfer_done g (unitwise g) m (length di) di ok (omega arith))
    (refl, refl, sym (completes g (unitwise g) m di r), sym (completes_out g (unitwise g) m di r))
