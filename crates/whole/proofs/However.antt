-- However the work falls: two orderly logs that differ only in their work records, both ending idle, have one end.
use mathlib.Core.Bool.{Bool, false}
use mathlib.Core.List.{List, [], ◌∷◌, ◌++◌}
use mathlib.Core.Path.{◌≡◌, refl, sym, ap, subst, ◌∙◌}
use Prim.Native.Nat.{ℕ, ◌<◌}
use lib.Dec.{T}
use lib.ListN.{length, get_or}
use Rattle.part.specs.declared.Geometry.{Geometry}
use Rattle.buslog.specs.Log.{Bytes}
use Rattle.buslog.specs.declared.Record.{Record}
use Rattle.buslog.specs.declared.Record.TheVariants.{Select, Shift, Deselect, Units, Level, Power}
use Rattle.device.specs.Machine.{Machine}
use Rattle.device.specs.Work.{unitwise}
use Rattle.device.specs.Step.{step, run}
use Rattle.walk.specs.Turns.{puts}
use Rattle.model.specs.Runs.{bytes_out, Outcome, End}
use Rattle.whole.specs.Whole.{whole}
use Rattle.whole.specs.Orderly.{asks, asked}
use Rattle.whole.specs.Demand.{settled, Given, machine_of, Ran, wholly, records_done, supposed, SameEnd, bus_only, with_log, However}
use Rattle.whole.proofs.Demand3.{agreed, done_read, keeps_order, same_end}

-- ---- the whole run, without its work records

module _ (g : Geometry) where
  bus_run : (es : List Record) (m : Machine) → run g (whole g) m es ≡ run g (whole g) m (bus_only es)
  unfolding run step whole
  bus_run [] m = refl
  bus_run (Units n ∷ es) m = bus_run es m
  bus_run (Select ∷ es) m = bus_run es (step g (whole g) m Select)
  bus_run (Shift b ∷ es) m = bus_run es (step g (whole g) m (Shift b))
  bus_run (Deselect ∷ es) m = bus_run es (step g (whole g) m Deselect)
  bus_run (Level v ∷ es) m = bus_run es (step g (whole g) m (Level v))
  bus_run (Power ∷ es) m = bus_run es (step g (whole g) m Power)

  bus_out : (es : List Record) (m : Machine) → bytes_out g (whole g) m es ≡ bytes_out g (whole g) m (bus_only es)
  unfolding bytes_out step whole
  bus_out [] m = refl
  bus_out (Units n ∷ es) m = bus_out es m
  bus_out (Select ∷ es) m = bus_out es (step g (whole g) m Select)
  bus_out (Shift b ∷ es) m = ap (λ (l : List ℕ). puts g m (Shift b) ++ l) (bus_out es (step g (whole g) m (Shift b)))
  bus_out (Deselect ∷ es) m = bus_out es (step g (whole g) m Deselect)
  bus_out (Level v ∷ es) m = bus_out es (step g (whole g) m (Level v))
  bus_out (Power ∷ es) m = bus_out es (step g (whole g) m Power)

  bus_asked : (es : List Record) (m : Machine) → asked g (whole g) m es ≡ asked g (whole g) m (bus_only es)
  unfolding asked step whole
  bus_asked [] m = refl
  bus_asked (Units n ∷ es) m = bus_asked es m
  bus_asked (Select ∷ es) m = bus_asked es (step g (whole g) m Select)
  bus_asked (Shift b ∷ es) m = ap (λ (l : List Bool). asks m (Shift b) ++ l) (bus_asked es (step g (whole g) m (Shift b)))
  bus_asked (Deselect ∷ es) m = bus_asked es (step g (whole g) m Deselect)
  bus_asked (Level v ∷ es) m = bus_asked es (step g (whole g) m (Level v))
  bus_asked (Power ∷ es) m = bus_asked es (step g (whole g) m Power)

-- ---- a run of either log, by its bus records alone

module _ (i : Given) (h : Bytes i.log) (e : End) (r : Ran i e) (t : T (supposed i e)) where
  abbrev part : Geometry
  part = i.part

  abbrev start : Machine
  start = settled part (machine_of i)

  abbrev bus : List Record
  bus = bus_only (records_done i e)

  bus_es : bus_only (agreed i h e r t).es ≡ bus
  bus_es = sym (ap bus_only (done_read i h e r t))

  ends_at : (wholly i).machine ≡ run part (whole part) start bus
  ends_at = ap (λ (x : Outcome). x.machine) (agreed i h e r t).whole_did ∙ bus_run part (agreed i h e r t).es start ∙ ap (run part (whole part) start) bus_es

  puts_out : (wholly i).output ≡ bytes_out part (whole part) start bus
  puts_out = ap (λ (x : Outcome). x.output) (agreed i h e r t).whole_did ∙ bus_out part (agreed i h e r t).es start ∙ ap (bytes_out part (whole part) start) bus_es

  asks_at : asked part (unitwise part) (machine_of i) (records_done i e) ≡ asked part (whole part) start bus
  asks_at =
      ap (asked part (unitwise part) (machine_of i)) (done_read i h e r t) ∙ (agreed i h e r t).questions (keeps_order i h e r t)
      ∙ bus_asked part (agreed i h e r t).es start ∙ ap (asked part (whole part) start) bus_es

-- ---- the two together

pub however : However
however i b h k e f r q same t u =
    let j : Given = with_log b i in
    let g : Geometry = i.part in
    let m : Machine = settled g (machine_of i) in
    let x : SameEnd i e = same_end i h e r t in
    let y : SameEnd j f = same_end j k f q u in
    let one : (wholly i).machine ≡ (wholly j).machine = ends_at i h e r t ∙ ap (run g (whole g) m) same ∙ sym (ends_at j k f q u) in
    let put : (wholly i).output ≡ (wholly j).output = puts_out i h e r t ∙ ap (bytes_out g (whole g) m) same ∙ sym (puts_out j k f q u) in
    let ask : asked g (unitwise g) (machine_of i) (records_done i e) ≡ asked g (unitwise g) (machine_of j) (records_done j f) = asks_at i h e r t ∙ ap (asked g (whole g) m) same ∙ sym (asks_at j k f q u) in
    let long : e.answer.written ≡ f.answer.written = x.written ∙ ap length put ∙ sym y.written in
    record {
      state = x.state ∙ ap (λ (m : Machine). m.state) one ∙ sym y.state;
      cells = x.cells ∙ ap (λ (m : Machine). m.store.cells) one ∙ sym y.cells;
      cache = x.cache ∙ ap (λ (m : Machine). m.store.cache) one ∙ sym y.cache;
      counts = x.counts ∙ ap (λ (m : Machine). m.counts) one ∙ sym y.counts;
      written = long;
      output = λ n l p.
          x.output n l p ∙ ap (λ (o : List ℕ). get_or o n 0) put
          ∙ sym (y.output n (subst (λ (w : ℕ). n < w) long l) (subst (λ (o : List Bool). get_or o n false ≡ false) ask p));
    }
