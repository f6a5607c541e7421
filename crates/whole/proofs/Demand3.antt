-- Demand 3 holds of what `run` returned and left.
use Rattle.std.specs.Prelude.{if◌then◌else◌}
use mathlib.Core.Bool.{Bool, true, false, ◌&&◌}
use mathlib.Core.List.{List, []}
use mathlib.Core.Path.{◌≡◌, refl, sym, ap, subst, ◌∙◌}
use Prim.Native.Nat.{ℕ, ◌<◌}
use lib.Dec.{T, ltb}
use lib.ListN.{length, get_or, take, drop, get_or-append}
use lib.Seq.{take-length}
use Rattle.part.specs.Part.{Sound}
use Rattle.part.specs.declared.Geometry.{Geometry}
use Rattle.part.proofs.Choice.{cond_keep, true_T, and_l, and_r}
use Rattle.buslog.specs.Log.{Bytes}
use Rattle.buslog.specs.Read.{Parsed, parse}
use Rattle.buslog.specs.declared.Why.TheVariants as why
use Rattle.buslog.specs.declared.Record.{Record}
use Rattle.array.specs.declared.Work.{Work}
use Rattle.array.specs.declared.Work.TheVariants.{Idle, Busy}
use Rattle.device.specs.Machine.{Machine}
use Rattle.device.specs.Work.{unitwise}
use Rattle.device.specs.Step.{run}
use Rattle.kept.specs.Kept.{SoundMachine, BytesIn}
use Rattle.refusals.specs.Refusals.{number_of, refusal_of, passed, checked_as}
use Rattle.model.specs.Runs.{shifts_in, fitting, bytes_out, Outcome, did, ran_of, run_of, End}
use Rattle.refusals.specs.declared.Refusal.{Refusal}
use Rattle.refusals.specs.declared.Refusal.TheVariants.{NoRoom}
use Rattle.answers.specs.Table.{Fine}
use Rattle.answers.proofs.Records.{bytes_read, bytes_fitting, fitting_first}
use Rattle.answers.proofs.Checks.{fine}
use Rattle.answers.proofs.Lines.{is_fine, is_stop, exactly}
use Rattle.answers.proofs.Logs.{stops_parse}
use Rattle.answers.proofs.Parts.{sound_of, fine_of, ended}
use Rattle.whole.specs.Whole.{whole}
use Rattle.whole.specs.Orderly.{rests, idle, orderly, first_read, up_registers, up_transfer, power_up?, starts, asked}
use Rattle.whole.specs.Demand.{settled, Given, machine_of, Ran, wholly, records_done, supposed, SameEnd, Demand3, AllDone}
use Rattle.whole.proofs.Finish.{finish}
use Rattle.whole.proofs.Start.{idle_finish, start_finish, finish_sound}
use Rattle.whole.proofs.Follow.{Agree, agree_by, agree_length, agree_at, end_follows, out_follows, asked_follows}

-- an idle machine is not at power-up, so that the whole run begins there too
idle_settled : (g : Geometry) (m : Machine) → T (idle m.state) → settled g m ≡ m
unfolding settled
idle_settled g m t =
    cond_keep (λ (x : Machine). x ≡ m) (power_up? m.state)
    (λ e. absurd (never m.state.work t (and_r (up_registers m.state.regs && up_transfer m.state.bus.transfer) _ (true_T _ e)))) (λ e. refl)
  where
    never : (w : Work) → T (rests w) → T (first_read w) → ⊥
    never Idle t u = u
    never (Busy j i) t u = t

module _ (g : Geometry) (room : ℕ) (log : List ℕ) (m : Machine) where
  -- both runs did the same records and gave the same number; and what holds of those records if they are orderly
  pub record Both : Type 0 where
    pub why : Refusal
    pub es : List Record
    pub stepped : run_of g (unitwise g) room log m ≡ did g (unitwise g) m why es
    pub whole_did : run_of g (whole g) room log (settled g m) ≡ did g (whole g) (settled g m) why es
    pub read : take (length es) (parse log).records ≡ es
    pub end : T (orderly g m es) → finish g (run g (unitwise g) m es) ≡ run g (whole g) (settled g m) es
    pub out : T (orderly g m es) → Agree (asked g (unitwise g) m es) (bytes_out g (unitwise g) m es) (bytes_out g (whole g) (settled g m) es)
    pub questions : T (orderly g m es) → asked g (unitwise g) m es ≡ asked g (whole g) (settled g m) es

  -- where the checks hold
  both_fine : Bytes log → T (starts m.state) → Fine g m → Both
  unfolding ran_of
  both_fine h t f =
      let p : Sound g = f.before.before.before.part in
      let k : SoundMachine g m = sound_of g m f in
      let es : List Record = fitting room (parse log).records in
      let b : BytesIn es = bytes_fitting room (parse log).records (bytes_read log h) in
      let q : finish g m ≡ settled g m = start_finish g p m k.fits t in
      record {
        why = if ltb room (shifts_in (parse log).records) then NoRoom else refusal_of (parse log).why;
        es = es;
        stepped = is_fine g (unitwise g) room log m f;
        whole_did = is_fine g (whole g) room log (settled g m) (fine_of g (settled g m) p (subst (SoundMachine g) q (finish_sound g p m k)));
        read = fitting_first room (parse log).records;
        end = λ o. end_follows g p es m k b o ∙ ap (λ (x : Machine). run g (whole g) x es) q;
        out = λ o. subst (λ (x : Machine). Agree (asked g (unitwise g) m es) (bytes_out g (unitwise g) m es) (bytes_out g (whole g) x es)) q (out_follows g p es m k b o);
        questions = λ o. asked_follows g p es m k b o ∙ ap (λ (x : Machine). asked g (whole g) x es) q;
      }

  -- and where one refuses
  both_refused : T (idle m.state) → passed (checked_as g m) ≡ false → Both
  unfolding run_of run asked bytes_out Agree
  both_refused i e =
      record {
        why = checked_as g m;
        es = [];
        stepped = rw e;
        whole_did = rw (idle_settled g m i, e);
        read = refl;
        end = λ o. idle_finish g m i ∙ sym (idle_settled g m i);
        out = λ o. tt;
        questions = λ o. refl;
      }

  pub both : Bytes log → T (starts m.state) → T (idle (run_of g (unitwise g) room log m).machine.state) → Both
  unfolding run_of run
  both h t i = go (passed (checked_as g m)) refl i
    where
      go : (b : Bool) → passed (checked_as g m) ≡ b → T (idle (if b then ran_of g (unitwise g) room (parse log) m else did g (unitwise g) m (checked_as g m) []).machine.state) → Both
      go true e i = both_fine h t (fine g m e)
      go false e i = both_refused i e

-- ---- a log read to its end

pub all_done : AllDone
all_done i h e r z =
    let g = i.part in
    let room = length i.out in
    let m = machine_of i in
    let l = ended g room i.log m ((exactly g (unitwise g) room i.log h m 0).0 (subst (λ (x : End). number_of x.answer.refusal ≡ 0) r z)) in
    let p : (parse i.log).records ≡ l.1.earlier = ap (λ (x : Parsed). x.records) (stops_parse i.log room why.End l.1) in
    ap (λ (x : End). take x.answer.records (parse i.log).records) r
    ∙ ap (λ (x : Outcome). take x.records (parse i.log).records) (is_stop g (unitwise g) room i.log m l.0 why.End l.1)
    ∙ rw p (take-length l.1.earlier) ∙ sym p

-- ---- in the words of the demand

module _ (i : Given) (h : Bytes i.log) (e : End) (r : Ran i e) (t : T (supposed i e)) where
  abbrev part : Geometry
  part = i.part

  abbrev starts_well : Bool
  starts_well = starts i.state

  abbrev in_order : Bool
  in_order = orderly part (machine_of i) (records_done i e)

  ends_idle : T (idle (run_of part (unitwise part) (length i.out) i.log (machine_of i)).machine.state)
  ends_idle = subst (λ (x : End). T (idle x.answer.state)) r (and_r (starts_well && in_order) (idle e.answer.state) t)

  pub agreed : Both part (length i.out) i.log (machine_of i)
  agreed = both part (length i.out) i.log (machine_of i) h (and_l starts_well in_order (and_l (starts_well && in_order) (idle e.answer.state) t)) ends_idle

  -- the records done are those of both runs
  pub done_read : records_done i e ≡ agreed.es
  done_read = ap (λ (x : End). take x.answer.records (parse i.log).records) r ∙ ap (λ (x : Outcome). take x.records (parse i.log).records) agreed.stepped ∙ agreed.read

  pub keeps_order : T (orderly part (machine_of i) agreed.es)
  keeps_order =
      subst (λ (x : List Record). T (orderly part (machine_of i) x)) done_read
      (and_r starts_well in_order (and_l (starts_well && in_order) (idle e.answer.state) t))

  one_machine : run part (unitwise part) (machine_of i) agreed.es ≡ (wholly i).machine
  one_machine =
      sym (idle_finish part _ (subst (λ (x : Outcome). T (idle x.machine.state)) agreed.stepped ends_idle))
      ∙ agreed.end keeps_order ∙ sym (ap (λ (x : Outcome). x.machine) agreed.whole_did)

  -- what is said of the machine of the end
  of_machine : {A : Type 0} (f : Machine → A) → f (run_of part (unitwise part) (length i.out) i.log (machine_of i)).machine ≡ f (wholly i).machine
  of_machine f = ap f (ap (λ (x : Outcome). x.machine) agreed.stepped ∙ one_machine)

  -- what is said of a run but for its machine and its output
  of_numbers : {A : Type 0} (f : Refusal → ℕ → ℕ → A) → (let o = run_of part (unitwise part) (length i.out) i.log (machine_of i) in f o.refusal o.records o.used) ≡ (let o = wholly i in f o.refusal o.records o.used)
  of_numbers f = rw (agreed.stepped, agreed.whole_did)

  abbrev questions : List Bool
  questions = asked part (unitwise part) (machine_of i) (records_done i e)

  abbrev bytes : List ℕ
  bytes = (run_of part (unitwise part) (length i.out) i.log (machine_of i)).output

  out_agrees : Agree questions bytes (wholly i).output
  out_agrees =
      agree_by (ap (asked part (unitwise part) (machine_of i)) done_read) (ap (λ (x : Outcome). x.output) agreed.stepped) (ap (λ (x : Outcome). x.output) agreed.whole_did)
      (agreed.out keeps_order)

  out_at : (n : ℕ) → n < length bytes → get_or questions n false ≡ false → get_or e.out n 0 ≡ get_or (wholly i).output n 0
  out_at n l q = ap (λ (x : End). get_or x.out n 0) r ∙ get_or-append bytes (drop (length bytes) i.out) 0 n l ∙ agree_at questions bytes (wholly i).output out_agrees n l q

  pub same_end : SameEnd i e
  same_end = record {
    state = ap (λ (x : End). x.answer.state) r ∙ of_machine (λ m. m.state);
    cells = ap (λ (x : End). x.cells) r ∙ of_machine (λ m. m.store.cells);
    cache = ap (λ (x : End). x.cache) r ∙ of_machine (λ m. m.store.cache);
    counts = ap (λ (x : End). x.counts) r ∙ of_machine (λ m. m.counts);
    refusal = ap (λ (x : End). x.answer.refusal) r ∙ of_numbers (λ a b c. a);
    records = ap (λ (x : End). x.answer.records) r ∙ of_numbers (λ a b c. b);
    used = ap (λ (x : End). x.answer.used) r ∙ of_numbers (λ a b c. c);
    written = ap (λ (x : End). x.answer.written) r ∙ agree_length questions bytes (wholly i).output out_agrees;
    output = λ n k q. out_at n (subst (λ (x : End). n < x.answer.written) r k) q;
  }

pub demand_3 : Demand3
demand_3 i h e r t = same_end i h e r t
