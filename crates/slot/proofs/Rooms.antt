-- Records and the output room they take; a run of one part and then another; the run that is left, from a place of the log on.
use mathlib.Core.Bool.{Bool, true, false}
use mathlib.Core.List.{List, [], ◌∷◌, ◌++◌, append_assoc}
use mathlib.Core.Path.{◌≡◌, refl, sym, ap, ◌∙◌}
use Prim.Native.Nat.{ℕ, suc, ◌+◌, ◌-◌, ◌≤◌, ◌<◌}
use native.Mathlib.Nat.{zero-add, add_assoc}
use native.Mathlib.Omega.{arith}
use lib.Dec.{ltb}
use lib.ListN.{length, take, drop, length-append}
use lib.Seq.{drop-drop}
use borrow.Author.Tests.{lt-ltb, le-ltb, ltb-true, ltb-false}
use Rattle.part.proofs.Choice.{cond_keep}
use Rattle.cardlog.specs.Log.{written}
use Rattle.cardlog.specs.Read.{ends, found, front, Parsed, parse}
use Rattle.cardlog.specs.declared.Why.{Why}
use Rattle.cardlog.specs.declared.Record.{Record}
use Rattle.cardlog.specs.declared.Record.TheVariants.{Sent, Power}
use Rattle.cardlog.proofs.Logs.{written_append, parse_ends, parse_found}
use Rattle.card.specs.Card.{Card, answer_of, answer_length, sent, step, run, takes, puts}
use Rattle.card.specs.Table.{address_of}
use Rattle.card.specs.declared.Command.{Command}
use Rattle.card.specs.declared.Command.TheVariants.{WriteWithBit, Write, Protect, ReadWithBit, Read, Count, Compare, Ignored}
use Rattle.slot.specs.Turns.{refusal_of, checked_as}
use Rattle.slot.specs.Runs.{Outcome, room_for, fitting, bytes_out, did, ran_of, only_if, run_of, and_then}
use Rattle.slot.specs.declared.Refusal.{Refusal}
use Rattle.slot.specs.declared.Refusal.TheVariants.{Done, BadCells, BadBits, BadKind, ShortBody, NoRoom}

-- ---- the records that find room

-- the room of two parts is the sum
pub room_append : (a b : List Record) → room_for (a ++ b) ≡ room_for a + room_for b
unfolding room_for
room_append [] b = sym (zero-add (room_for b))
room_append (e ∷ a) b = rw (room_append a b) (sym (add_assoc (takes e) (room_for a) (room_for b)))

-- all of them, where the room is enough
pub fitting_all : (room : ℕ) (es : List Record) → room_for es ≤ room → fitting room es ≡ es
unfolding room_for fitting
fitting_all room [] h = refl
fitting_all room (e ∷ es) h = rw (le-ltb room (takes e) (omega arith), fitting_all (room - takes e) es (omega arith))

-- those of a first part that has room, and then those of the second that find room behind it
pub fitting_parts : (room : ℕ) (a b : List Record) → room_for a ≤ room → fitting room (a ++ b) ≡ a ++ fitting (room - room_for a) b
unfolding room_for fitting
fitting_parts room [] b h = ap (λ (k : ℕ). fitting k b) (omega arith)
fitting_parts room (e ∷ a) b h =
    rw (le-ltb room (takes e) (omega arith))
    (ap {B = List Record} (λ x. e ∷ x) (fitting_parts (room - takes e) a b (omega arith) ∙ ap (λ (k : ℕ). a ++ fitting k b) (omega arith)))

-- those before a record that finds none
pub fitting_full : (room : ℕ) (a : List Record) (e : Record) (b : List Record) → room_for a ≤ room → room < room_for a + takes e → fitting room (a ++ e ∷ b) ≡ a
unfolding room_for fitting
fitting_full room [] e b h k = rw (lt-ltb room (takes e) (omega arith))
fitting_full room (d ∷ a) e b h k = rw (le-ltb room (takes d) (omega arith), fitting_full (room - takes d) a e b (omega arith) (omega arith))

-- they are the first of the records, as many as they are
pub fitting_first : (room : ℕ) (es : List Record) → take (length (fitting room es)) es ≡ fitting room es
unfolding fitting
fitting_first room [] = refl
fitting_first room (e ∷ es) =
    cond_keep (λ (x : List Record). take (length x) (e ∷ es) ≡ x) (ltb room (takes e)) (λ p. refl)
    (λ p. ap {B = List Record} (λ x. e ∷ x) (fitting_first (room - takes e) es))

-- the test for room, behind a part that has it
pub ltb_less : (r a b : ℕ) → a ≤ r → ltb r (a + b) ≡ ltb (r - a) b
ltb_less r a b h = go (ltb (r - a) b) refl
  where
    go : (x : Bool) → ltb (r - a) b ≡ x → ltb r (a + b) ≡ x
    go true e = lt-ltb r (a + b) (omega (arith, ltb-true (r - a) b e))
    go false e = le-ltb r (a + b) (omega (arith, ltb-false (r - a) b e))

-- ---- what records put out

-- an answer is as long as its command's answers are
pub answer_length_lem : (c : Card) (k : Command) (a : ℕ) → length (answer_of c k a) ≡ answer_length k
answer_length_lem c WriteWithBit a = refl
answer_length_lem c Write a = refl
answer_length_lem c Protect a = refl
answer_length_lem c ReadWithBit a = refl
answer_length_lem c Read a = refl
answer_length_lem c Count a = refl
answer_length_lem c Compare a = refl
answer_length_lem c Ignored a = refl

-- a record puts out as many bytes as it takes room
pub puts_length : (c : Card) (e : Record) → length (puts c e) ≡ takes e
puts_length c (Sent first second third) = answer_length_lem c (sent first second) (address_of first second)
puts_length c Power = refl

-- and so do some records
pub out_length : (es : List Record) (c : Card) → length (bytes_out c es) ≡ room_for es
unfolding bytes_out room_for
out_length [] c = refl
out_length (e ∷ es) c = rw (length-append (puts c e) (bytes_out (step c e) es), puts_length c e, out_length es (step c e))

-- ---- one part, and then another

-- the card, the output and the outcome of two parts, one behind the other
pub run_parts : (a b : List Record) (c : Card) → run c (a ++ b) ≡ run (run c a) b
unfolding run
run_parts [] b c = refl
run_parts (e ∷ a) b c = run_parts a b (step c e)

pub out_parts : (a b : List Record) (c : Card) → bytes_out c (a ++ b) ≡ bytes_out c a ++ bytes_out (run c a) b
unfolding run bytes_out
out_parts [] b c = refl
out_parts (e ∷ a) b c = rw (out_parts a b (step c e)) (sym (append_assoc (puts c e) (bytes_out (step c e) a) _))

pub did_parts : (c : Card) (r s : Refusal) (a b : List Record) → did c s (a ++ b) ≡ and_then (did c r a) (did (run c a) s b)
did_parts c r s a b = rw (run_parts a b c, out_parts a b c, written_append a b, length-append a b, length-append (written a) (written b))

-- ---- the records that a run does

-- the card of an outcome is that of its records done one after another
abbrev ByRecords : Card → List Record → Outcome → Type 0
ByRecords c es o = o.card ≡ run c (take o.records es)

-- whatever the checks say
by_records : (room : ℕ) (p : Parsed) (c : Card) (why r : Refusal) → ByRecords c p.records (only_if r (ran_of room p c) (did c why []))
unfolding ran_of
by_records room p c why Done = ap (run c) (sym (fitting_first room p.records))
by_records room p c why BadCells = refl
by_records room p c why BadBits = refl
by_records room p c why BadKind = refl
by_records room p c why ShortBody = refl
by_records room p c why NoRoom = refl

pub run_done : (room : ℕ) (log : List ℕ) (c : Card) → (run_of room log c).card ≡ run c (take (run_of room log c).records (parse log).records)
unfolding run_of
run_done room log c = by_records room (parse log) c (checked_as c) (checked_as c)

-- ---- what a loop over a slice and an index needs: the run that is left, from a place of the log on

module _ (room : ℕ) (log : List ℕ) (at : ℕ) (c : Card) where
  -- there is no record; or its answer has no room; or it is done, and the rest is left
  pub left_ends : (w : Why) → front (drop at log) ≡ ends w → ran_of room (parse (drop at log)) c ≡ did c (refusal_of w) []
  unfolding ran_of room_for fitting
  left_ends w p = rw (parse_ends (drop at log) w p, le-ltb room 0 (omega arith))

  pub left_full : (e : Record) (n : ℕ) → front (drop at log) ≡ found e n → room < takes e → ran_of room (parse (drop at log)) c ≡ did c NoRoom []
  unfolding ran_of room_for fitting
  left_full e n p h = rw (parse_found (drop at log) e n p, lt-ltb room (takes e + room_for (parse (drop (suc n) (drop at log))).records) (omega arith), lt-ltb room (takes e) h)

  pub left_next : (e : Record) (n : ℕ) → front (drop at log) ≡ found e n → takes e ≤ room
      → ran_of room (parse (drop at log)) c ≡ and_then (did c Done (e ∷ [])) (ran_of (room - takes e) (parse (drop (at + suc n) log)) (step c e))
  unfolding ran_of room_for fitting run
  left_next e n p h =
      rw (parse_found (drop at log) e n p, drop-drop (suc n) at log, ltb_less room (takes e) _ h, le-ltb room (takes e) h)
      (did_parts c Done _ (e ∷ []) (fitting (room - takes e) (parse (drop (at + suc n) log)).records))
