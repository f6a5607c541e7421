-- The two ways in which a reading ends, against the reading itself: a log that stops, and one whose shifts use up the room.
use mathlib.Core.List.{List, [], ◌∷◌, ◌++◌, append-nil, append_assoc}
use mathlib.Core.Path.{◌≡◌, refl, ap, ap₂, subst, ◌∙◌}
use Prim.Native.Nat.{ℕ, zero, suc, ◌+◌, ◌≤◌, ◌<◌}
use native.Mathlib.Omega.{arith}
use lib.Dec.{T}
use lib.ListN.{length, drop}
use Rattle.buslog.specs.Log.{written, levels_sound, Bytes}
use Rattle.buslog.specs.Read.{why_number, front, Parsed, parse, Ends, at_end, unknown_kind, short_body, too_high}
use Rattle.buslog.specs.declared.Why.{Why}
use Rattle.buslog.specs.declared.Record.{Record}
use Rattle.buslog.specs.declared.Record.TheVariants.{Select, Shift, Deselect, Units, Level, Power}
use Rattle.buslog.proofs.Logs.{joined, parse_ends, parse_found, parse_written_front, written_rest, rest_front, written_append}
use Rattle.buslog.proofs.Endings.{front_ends_as, as_front_ends}
use Rattle.walk.specs.Turns.{takes}
use Rattle.model.specs.Runs.{shifts_in}
use Rattle.answers.specs.Table.{Stops, Full}
use Rattle.answers.proofs.Records.{levels_read, levels_front}

-- ---- records with more shifts than room: those that use it up, a shift, and the rest

record Split (room : ℕ) (es : List Record) : Type 0 where
  pub earlier : List Record
  pub byte : ℕ
  pub later : List Record
  pub splits : es ≡ earlier ++ Shift byte ∷ later
  pub used_up : shifts_in earlier ≡ room

split_on : (e : Record) (room left : ℕ) {es : List Record} → takes e + left ≡ room → Split left es → Split room (e ∷ es)
unfolding shifts_in
split_on e room left p s =
    record { earlier = e ∷ s.earlier; byte = s.byte; later = s.later; splits = ap {B = List Record} (λ x. e ∷ x) s.splits; used_up = omega (arith, s.used_up) }

split : (room : ℕ) (es : List Record) → room < shifts_in es → Split room es
unfolding shifts_in
split room [] h = absurd (omega arith)
split zero (Shift b ∷ es) h = record { earlier = []; byte = b; later = es; splits = refl; used_up = refl }
split (suc room) (Shift b ∷ es) h = split_on (Shift b) (suc room) room (omega arith) (split room es (omega arith))
split room (Select ∷ es) h = split_on Select room room (omega arith) (split room es (omega arith))
split room (Deselect ∷ es) h = split_on Deselect room room (omega arith) (split room es (omega arith))
split room (Units n ∷ es) h = split_on (Units n) room room (omega arith) (split room es (omega arith))
split room (Level v ∷ es) h = split_on (Level v) room room (omega arith) (split room es (omega arith))
split room (Power ∷ es) h = split_on Power room room (omega arith) (split room es (omega arith))

-- ---- the log

-- no reading ends with a number of the checks, nor with 9
pub ends_number : {l : List ℕ} {n : ℕ} → Ends l n → (1 ≤ n → n ≤ 5 → ⊥) × (n ≤ 8)
ends_number (at_end e) = (λ a b. omega arith, omega arith)
ends_number (unknown_kind e) = (λ a b. omega arith, omega arith)
ends_number (short_body e) = (λ a b. omega arith, omega arith)
ends_number (too_high e) = (λ a b. omega arith, omega arith)

module _ (log : List ℕ) (room : ℕ) where
  -- what is read of a log that stops, and of one that is full
  pub stops_parse : (w : Why) (s : Stops log room (why_number w)) → parse log ≡ record { records = s.earlier; used = length (written s.earlier); why = w }
  stops_parse w s =
      ap parse s.splits ∙ parse_written_front s.earlier s.levels s.rest
      ∙ ap (joined s.earlier (length (written s.earlier))) (parse_ends s.rest w (as_front_ends s.rest w s.next))
      ∙ ap₂ (λ (x : List Record) (u : ℕ). record { records = x; used = u; why = w }) (append-nil s.earlier) (omega arith)

  pub full_parse : (s : Full log room) → (parse log).records ≡ s.earlier ++ Shift s.byte ∷ (parse s.rest).records
  unfolding front
  full_parse s =
      ap (λ (l : List ℕ). (parse l).records) s.splits
      ∙ ap (λ (p : Parsed). p.records) (parse_written_front s.earlier s.levels (2 ∷ s.byte ∷ s.rest))
      ∙ ap (λ (p : Parsed). s.earlier ++ p.records) (parse_found (2 ∷ s.byte ∷ s.rest) (Shift s.byte) 1 refl)

  -- and every log is one of the two
  pub parse_stops : Bytes log → shifts_in (parse log).records ≤ room → Stops log room (why_number (parse log).why)
  parse_stops h k =
      record {
        earlier = (parse log).records;
        levels = levels_read log;
        rest = drop (parse log).used log;
        splits = written_rest log h;
        next = front_ends_as (drop (parse log).used log) (parse log).why (rest_front log);
        roomy = k;
      }

  pub parse_full : Bytes log → room < shifts_in (parse log).records → Full log room
  unfolding written
  parse_full h k =
      let s : Split room (parse log).records = split room (parse log).records k in
      let rest : List ℕ = drop (parse log).used log in
      record {
        earlier = s.earlier;
        levels = levels_front s.earlier (Shift s.byte ∷ s.later) (subst (λ (x : List Record). T (levels_sound x)) s.splits (levels_read log));
        byte = s.byte;
        rest = written s.later ++ rest;
        splits =
            written_rest log h ∙ ap (λ (x : List Record). written x ++ rest) s.splits
            ∙ ap (λ (x : List ℕ). x ++ rest) (written_append s.earlier (Shift s.byte ∷ s.later))
            ∙ append_assoc (written s.earlier) (2 ∷ s.byte ∷ written s.later) rest;
        used_up = s.used_up;
      }
