-- A run from a sound state returns a sound state; and a log fed in parts.
use mathlib.Core.List.{List, ◌++◌}
use mathlib.Core.Path.{◌≡◌, ap, subst, ◌∙◌}
use Prim.Native.Nat.{ℕ, ◌-◌}
use lib.ListN.{length}
use Rattle.part.specs.Part.{Sound}
use Rattle.part.specs.declared.Geometry.{Geometry}
use Rattle.part.proofs.Choice.{cond_keep}
use Rattle.buslog.specs.Read.{Parsed, parse}
use Rattle.buslog.specs.declared.Why.TheVariants as why
use Rattle.buslog.specs.declared.Record.{Record}
use Rattle.buslog.proofs.Logs.{joined, parse_parts}
use Rattle.device.specs.Machine.{Machine}
use Rattle.device.specs.Work.{Array, unitwise}
use Rattle.device.specs.Step.{run}
use Rattle.device.specs.Sound.{SoundState}
use Rattle.kept.specs.Kept.{SoundMachine, BytesIn}
use Rattle.kept.proofs.Made.{fits_of, sound_made}
use Rattle.kept.proofs.Steps.{run_keeps}
use Rattle.refusals.specs.Refusals.{number_of, passed, checked_as}
use Rattle.model.specs.Runs.{shifts_in, fitting, Outcome, and_then, ran_of, run_of}
use Rattle.refusals.specs.declared.Refusal.TheVariants.{Done}
use Rattle.model.proofs.Rooms.{shifts_append, fitting_parts, out_length, ltb_less, did_parts}
use Rattle.answers.specs.Table.{Fine, Stops, Line, read_to_its_end}
use Rattle.answers.specs.Promises.{ReturnsSound, InParts}
use Rattle.answers.proofs.Records.{bytes_read, bytes_fitting}
use Rattle.answers.proofs.Logs.{stops_parse}
use Rattle.answers.proofs.Checks.{fine}
use Rattle.answers.proofs.Lines.{is_fine, is_stop, exactly}

-- the checks 1 to 5 hold exactly of a sound machine on a sound part
module _ (g : Geometry) (m : Machine) where
  pub sound_of : Fine g m → SoundMachine g m
  sound_of f =
      let c = f.before in
      sound_made g m f.state (fits_of g m.store c.before.before.cells c.before.cache) c.counts

  pub fine_of : Sound g → SoundMachine g m → Fine g m
  fine_of p s =
      record {
        before = record { before = record { before = record { part = p; cells = s.fits.cells_long }; cache = s.fits.cache_long }; counts = s.counts_long };
        state = s.state;
      }

-- after any records whose shifts carry bytes, all the checks hold again
fine_after : (g : Geometry) (m : Machine) → Fine g m → (es : List Record) → BytesIn es → Fine g (run g (unitwise g) m es)
fine_after g m f es b =
    let p : Sound g = f.before.before.before.part in
    fine_of g (run g (unitwise g) m es) p (run_keeps g p m es b (sound_of g m f))

pub returns_sound : ReturnsSound
unfolding run_of ran_of run
returns_sound g room log h m s =
    cond_keep (λ (o : Outcome). SoundState g o.machine.state) (passed (checked_as g m))
    (λ e. (fine_after g m (fine g m e) (fitting room (parse log).records) (bytes_fitting room (parse log).records (bytes_read log h))).state) (λ e. s)

-- a log read to its end: all the checks hold, and it stops at its end
pub ended : (g : Geometry) (room : ℕ) (log : List ℕ) (m : Machine) → Line g room log m 0 → Fine g m × Stops log room 0
ended g room log m (read_to_its_end f s) = (f, s)

-- one run and then the other, where all the checks hold again as the second begins
two_runs : (g : Geometry) (arr : Array) (room : ℕ) (a b : List ℕ) (m : Machine) → Fine g m → (s : Stops a room 0) → Fine g (run g arr m s.earlier) →
    run_of g arr room (a ++ b) m ≡ and_then (run_of g arr room a m) (run_of g arr (room - length (run_of g arr room a m).output) b (run_of g arr room a m).machine)
unfolding ran_of
two_runs g arr room a b m f s f' =
    let es : List Record = s.earlier in
    let p : parse a ≡ record { records = es; used = _; why = why.End } = stops_parse a room why.End s in
    let q : parse (a ++ b) ≡ joined (parse a).records (parse a).used (parse b) = parse_parts a b (ap (λ (x : Parsed). x.why) p) in
    let r : (parse a).records ≡ es = ap (λ (x : Parsed). x.records) p in
    rw (is_stop g arr room a m f why.End s, out_length g arr es m, is_fine g arr (room - shifts_in es) b (run g arr m es) f')
    (is_fine g arr room (a ++ b) m f
    ∙ rw (q, r, shifts_append es (parse b).records, ltb_less room (shifts_in es) (shifts_in (parse b).records) s.roomy, fitting_parts room es (parse b).records s.roomy)
    (did_parts g arr m Done _ es (fitting (room - shifts_in es) (parse b).records)))

pub in_parts : InParts
in_parts g room a b h m e =
    let l : Fine g m × Stops a room 0 = ended g room a m ((exactly g (unitwise g) room a h m 0).0 (ap number_of e)) in
    let r : (parse a).records ≡ l.1.earlier = ap (λ (x : Parsed). x.records) (stops_parse a room why.End l.1) in
    two_runs g (unitwise g) room a b m l.0 l.1 (fine_after g m l.0 l.1.earlier (subst BytesIn r (bytes_read a h)))
