-- A log fed in parts.
use mathlib.Core.List.{List, ◌++◌}
use mathlib.Core.Path.{◌≡◌, ap, ◌∙◌}
use Prim.Native.Nat.{ℕ, ◌-◌}
use lib.ListN.{length}
use Rattle.cardlog.specs.Read.{Parsed, parse}
use Rattle.cardlog.specs.declared.Why.TheVariants as why
use Rattle.cardlog.specs.declared.Record.{Record}
use Rattle.cardlog.proofs.Logs.{joined, parse_parts}
use Rattle.card.specs.Card.{Card, run}
use Rattle.card.proofs.Lengths.{run_cells, run_bits}
use Rattle.slot.specs.Turns.{Fits, number_of}
use Rattle.slot.specs.Runs.{room_for, fitting, and_then, ran_of, run_of}
use Rattle.slot.specs.declared.Refusal.TheVariants.{Done}
use Rattle.slot.proofs.Rooms.{room_append, fitting_parts, out_length, ltb_less, did_parts}
use Rattle.card_answers.specs.Table.{Stops, Line, read_to_its_end}
use Rattle.card_answers.specs.Promises.{InParts}
use Rattle.card_answers.proofs.Logs.{stops_parse}
use Rattle.card_answers.proofs.Lines.{is_fine, is_stop, exactly}

-- after any records the checks hold again
fine_after : (c : Card) → Fits c → (es : List Record) → Fits (run c es)
fine_after c f es = record { cells = run_cells es c ∙ f.cells; bits = run_bits es c ∙ f.bits }

-- a log read to its end: the checks hold, and it stops at its end
ended : (room : ℕ) (log : List ℕ) (c : Card) → Line room log c 0 → Fits c × Stops log room 0
ended room log c (read_to_its_end f s) = (f, s)

-- one run and then the other, of a card whose checks hold
two_runs : (room : ℕ) (a b : List ℕ) (c : Card) → Fits c → Stops a room 0 →
    run_of room (a ++ b) c ≡ and_then (run_of room a c) (run_of (room - length (run_of room a c).output) b (run_of room a c).card)
unfolding ran_of
two_runs room a b c f s =
    let es : List Record = s.earlier in
    let p : parse a ≡ record { records = es; used = _; why = why.End } = stops_parse a room why.End s in
    let q : parse (a ++ b) ≡ joined (parse a).records (parse a).used (parse b) = parse_parts a b (ap (λ (x : Parsed). x.why) p) in
    let r : (parse a).records ≡ es = ap (λ (x : Parsed). x.records) p in
    rw (is_stop room a c f why.End s, out_length es c, is_fine (room - room_for es) b (run c es) (fine_after c f es))
    (is_fine room (a ++ b) c f
    ∙ rw (q, r, room_append es (parse b).records, ltb_less room (room_for es) (room_for (parse b).records) s.roomy, fitting_parts room es (parse b).records s.roomy)
    (did_parts c Done _ es (fitting (room - room_for es) (parse b).records)))

-- running both is running the one and then the other
pub in_parts : InParts
in_parts room a b c e =
    let l : Fits c × Stops a room 0 = ended room a c ((exactly room a c 0).0 (ap number_of e)) in
    two_runs room a b c l.0 l.1
