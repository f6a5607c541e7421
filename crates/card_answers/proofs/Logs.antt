-- The two ways in which a reading ends, against the reading itself: a log that stops, and one whose answers use up the room.
use mathlib.Core.Bool.{Bool, true, false}
use mathlib.Core.List.{List, [], ◌∷◌, ◌++◌, append-nil, append_assoc}
use mathlib.Core.Path.{◌≡◌, refl, sym, ap, ap₂, ◌∙◌}
use Prim.Native.Nat.{ℕ, ◌+◌, ◌-◌, ◌≤◌, ◌<◌}
use native.Mathlib.Omega.{arith}
use lib.Dec.{ltb}
use lib.ListN.{length, drop}
use borrow.Author.Tests.{ltb-true, ltb-false}
use Rattle.cardlog.specs.Log.{bytes_of, written}
use Rattle.cardlog.specs.Read.{why_number, Parsed, parse, Ends, at_end, unknown_kind, short_body}
use Rattle.cardlog.specs.declared.Why.{Why}
use Rattle.cardlog.specs.declared.Record.{Record}
use Rattle.cardlog.proofs.Logs.{joined, parse_ends, parse_written_front, written_rest, rest_front, written_append}
use Rattle.cardlog.proofs.Endings.{front_ends_as, as_front_ends}
use Rattle.card.specs.Card.{takes}
use Rattle.slot.specs.Runs.{room_for}
use Rattle.card_answers.specs.Table.{Stops, Full}

-- ---- records that take more than the room: those that have it, one that has none, and the rest

record Split (room : ℕ) (es : List Record) : Type 0 where
  pub earlier : List Record
  pub next : Record
  pub later : List Record
  pub splits : es ≡ earlier ++ next ∷ later
  pub roomy : room_for earlier ≤ room
  pub used_up : room < room_for earlier + takes next

-- they split at the first that finds no room
split : (room : ℕ) (es : List Record) → room < room_for es → Split room es
unfolding room_for
split room [] h = absurd (omega arith)
split room (e ∷ es) h = go (split (room - takes e) es) (ltb room (takes e)) refl
  where
    go : (room - takes e < room_for es → Split (room - takes e) es) → (b : Bool) → ltb room (takes e) ≡ b → Split room (e ∷ es)
    go on true p = record { earlier = []; next = e; later = es; splits = refl; roomy = omega arith; used_up = omega (arith, ltb-true room (takes e) p) }
    go on false p =
        let fits : takes e ≤ room = ltb-false room (takes e) p in
        let s : Split (room - takes e) es = on (omega arith) in
        record {
          earlier = e ∷ s.earlier;
          next = s.next;
          later = s.later;
          splits = ap {B = List Record} (λ x. e ∷ x) s.splits;
          roomy = omega (arith, s.roomy);
          used_up = omega (arith, s.used_up);
        }

-- ---- the log

-- a record's bytes in front of a log are read as that record
next_first : (e : Record) (l : List ℕ) → (parse (bytes_of e ++ l)).records ≡ e ∷ (parse l).records
unfolding written
next_first e l = ap (λ (x : List ℕ). (parse (x ++ l)).records) (sym (append-nil (bytes_of e))) ∙ ap (λ (p : Parsed). p.records) (parse_written_front (e ∷ []) l)

-- no reading ends with 9, nor with a number of the checks
pub ends_number : {l : List ℕ} {n : ℕ} → Ends l n → n ≤ 7
ends_number (at_end e) = omega arith
ends_number (unknown_kind e) = omega arith
ends_number (short_body e) = omega arith

module _ (log : List ℕ) (room : ℕ) where
  -- what is read of a log that stops, and of one that is full
  pub stops_parse : (w : Why) (s : Stops log room (why_number w)) → parse log ≡ record { records = s.earlier; used = length (written s.earlier); why = w }
  stops_parse w s =
      ap parse s.splits ∙ parse_written_front s.earlier s.rest
      ∙ ap (joined s.earlier (length (written s.earlier))) (parse_ends s.rest w (as_front_ends s.rest w s.next))
      ∙ ap₂ (λ (x : List Record) (u : ℕ). record { records = x; used = u; why = w }) (append-nil s.earlier) (omega arith)

  pub full_parse : (s : Full log room) → (parse log).records ≡ s.earlier ++ s.next ∷ (parse s.rest).records
  full_parse s =
      ap (λ (l : List ℕ). (parse l).records) s.splits
      ∙ ap (λ (p : Parsed). p.records) (parse_written_front s.earlier (bytes_of s.next ++ s.rest))
      ∙ ap (λ (es : List Record). s.earlier ++ es) (next_first s.next s.rest)

  -- and every log is one of the two
  pub parse_stops : room_for (parse log).records ≤ room → Stops log room (why_number (parse log).why)
  parse_stops k =
      record {
        earlier = (parse log).records;
        rest = drop (parse log).used log;
        splits = written_rest log;
        next = front_ends_as (drop (parse log).used log) (parse log).why (rest_front log);
        roomy = k;
      }

  pub parse_full : room < room_for (parse log).records → Full log room
  unfolding written
  parse_full k =
      let s : Split room (parse log).records = split room (parse log).records k in
      let rest : List ℕ = drop (parse log).used log in
      record {
        earlier = s.earlier;
        next = s.next;
        rest = written s.later ++ rest;
        splits =
            written_rest log ∙ ap (λ (x : List Record). written x ++ rest) s.splits
            ∙ ap (λ (x : List ℕ). x ++ rest) (written_append s.earlier (s.next ∷ s.later))
            ∙ append_assoc (written s.earlier) (bytes_of s.next ++ written s.later) rest
            ∙ ap (λ (x : List ℕ). written s.earlier ++ x) (append_assoc (bytes_of s.next) (written s.later) rest);
        roomy = s.roomy;
        used_up = s.used_up;
      }
