-- Nothing is told of the code but by opening: cards that are equal but for it give the same, as long as neither is open.
use mathlib.Core.Bool.{Bool, true, false}
use mathlib.Core.List.{List, [], ◌∷◌, ◌++◌}
use mathlib.Core.Path.{◌≡◌, refl, sym, ap₂, subst, ◌∙◌}
use Prim.Native.Nat.{ℕ, ◌%◌}
use native.Mathlib.Omega.{arith}
use lib.Dec.{eqb, ltb}
use lib.ListN.{take}
use borrow.Author.Tests.{eqb-true, eqb-false, ltb-true}
use Rattle.part.proofs.Choice.{cond_two}
use Rattle.cardlog.specs.Read.{Parsed, parse}
use Rattle.cardlog.specs.declared.Record.{Record}
use Rattle.cardlog.specs.declared.Record.TheVariants.{Sent, Power}
use Rattle.card.specs.Table.{address_of, counter, code₁, code₂}
use Rattle.card.specs.Card.{Card, is_open, cell_at, told, answer_of, sent, step, puts, run}
use Rattle.card.specs.declared.Command.{Command}
use Rattle.card.specs.declared.Command.TheVariants.{WriteWithBit, Write, Protect, ReadWithBit, Read, Count, Compare, Ignored}
use Rattle.slot.specs.Turns.{checked_as}
use Rattle.slot.specs.Runs.{Outcome, fitting, bytes_out, did, ran_of, only_if, run_of}
use Rattle.slot.specs.declared.Refusal.{Refusal}
use Rattle.slot.specs.declared.Refusal.TheVariants.{Done, BadCells, BadBits, BadKind, ShortBody, NoRoom}
use Rattle.slot.proofs.Rooms.{fitting_first}
use Rattle.passing.specs.Promises.{NotOpenFor, OnlyCounted, Alike, SameSeen, CodeKept, clearing, clears, CodeHidden}
use Rattle.passing.proofs.Counter.{counter_after, only_step, not_first, not_rest, only_counter}
use Rattle.passing.proofs.Steps.{AtCounter, at_counter}

-- ---- one record, on two such cards that are not open

module _ (c e : Card) (alike : Alike c e) where
  -- it clears a bit in both or in neither
  same_clearing : (k : Command) (a d : ℕ) → AtCounter a k → clearing k c a d ≡ clearing k e a d
  same_clearing Count a d h = rw (h, alike.bits, alike.cells counter (λ z. omega arith) (λ z. omega arith))
  same_clearing WriteWithBit a d h = refl
  same_clearing Write a d h = refl
  same_clearing Protect a d h = refl
  same_clearing ReadWithBit a d h = refl
  same_clearing Read a d h = refl
  same_clearing Compare a d h = refl
  same_clearing Ignored a d h = refl

  same_clears : (r : Record) → clears c r ≡ clears e r
  same_clears (Sent first second third) =
      let a : ℕ = address_of first second in
      same_clearing (sent first second) a third (at_counter (first % 64) a)
  same_clears Power = refl

  module _ (closed-c : is_open c.stage ≡ false) (closed-e : is_open e.stage ≡ false) where
    -- it leaves them alike
    alike_step : (r : Record) → Alike (step c r) (step e r)
    alike_step r =
        record {
          bits = x.bits ∙ alike.bits ∙ sym y.bits;
          long = x.long ∙ alike.long ∙ sym y.long;
          cells = λ a f g. cell a f g (eqb a counter) refl;
        }
      where
        x : OnlyCounted c (step c r)
        x = only_step c r closed-c

        y : OnlyCounted e (step e r)
        y = only_step e r closed-e

        at_the_counter : cell_at (step c r).cells counter ≡ cell_at (step e r).cells counter
        at_the_counter =
            counter_after c r closed-c ∙ rw (same_clears r, alike.cells counter (λ z. omega arith) (λ z. omega arith)) (sym (counter_after e r closed-e))

        cell : (a : ℕ) → ¬ (a ≡ code₁) → ¬ (a ≡ code₂) → (t : Bool) → eqb a counter ≡ t → cell_at (step c r).cells a ≡ cell_at (step e r).cells a
        cell a f g true t = rw (eqb-true a counter t) at_the_counter
        cell a f g false t =
            let n : ¬ (a ≡ counter) = eqb-false a counter t in
            x.others a n ∙ alike.cells a f g ∙ sym (y.others a n)

    -- a read tells the same
    same_told : (a : ℕ) → told c.stage c.cells a ≡ told e.stage e.cells a
    same_told a =
        rw (closed-c, closed-e)
        (cond_two (λ (m n : ℕ). m ≡ n) (ltb a code₁)
        (λ t. let h = ltb-true a code₁ t in alike.cells a (λ z. omega arith) (λ z. omega arith)) (λ t. refl))

    same_answer : (k : Command) (a : ℕ) → answer_of c k a ≡ answer_of e k a
    same_answer Read a = rw (same_told a)
    same_answer ReadWithBit a = rw (same_told a, alike.bits)
    same_answer WriteWithBit a = refl
    same_answer Write a = refl
    same_answer Protect a = refl
    same_answer Count a = refl
    same_answer Compare a = refl
    same_answer Ignored a = refl

    same_puts : (r : Record) → puts c r ≡ puts e r
    same_puts (Sent first second third) = same_answer (sent first second) (address_of first second)
    same_puts Power = refl

-- ---- any records

same_out : (c e : Card) (es : List Record) → Alike c e → NotOpenFor c es → NotOpenFor e es → (bytes_out c es ≡ bytes_out e es) × Alike (run c es) (run e es)
unfolding bytes_out run
same_out c e [] a f g = (refl, a)
same_out c e (r ∷ es) a f g =
    let f₀ : is_open c.stage ≡ false = not_first c r es f in
    let g₀ : is_open e.stage ≡ false = not_first e r es g in
    let on = same_out (step c r) (step e r) es (alike_step c e a f₀ g₀ r) (not_rest c r es f) (not_rest e r es g) in
    (ap₂ (λ (x y : List ℕ). x ++ y) (same_puts c e a f₀ g₀ r) on.0, on.1)

-- ---- a run

-- what it comes to, by what the checks say
abbrev checked_run : ℕ → Parsed → Card → Refusal → Outcome
checked_run room p c r = only_if r (ran_of room p c) (did c r [])

module _ (room : ℕ) (p : Parsed) (c e : Card) (alike : Alike c e) where
  -- not open as any record of such a run begins
  abbrev Lasts : Card → Refusal → Type 0
  Lasts d r = NotOpenFor d (take (checked_run room p d r).records p.records)

  -- nothing done
  nothing : (r : Refusal) → SameSeen (did c r []) (did e r [])
  unfolding bytes_out run
  nothing r = record { refusal = refl; records = refl; used = refl; output = refl; cards = alike }

  same_run : (r : Refusal) → Lasts c r → Lasts e r → SameSeen (checked_run room p c r) (checked_run room p e r)
  unfolding ran_of
  same_run Done f g =
      let es : List Record = fitting room p.records in
      let x = same_out c e es alike (rw (fitting_first room p.records) at f) (rw (fitting_first room p.records) at g) in
      record { refusal = refl; records = refl; used = refl; output = x.0; cards = x.1 }
  same_run BadCells f g = nothing BadCells
  same_run BadBits f g = nothing BadBits
  same_run BadKind f g = nothing BadKind
  same_run ShortBody f g = nothing ShortBody
  same_run NoRoom f g = nothing NoRoom

  -- the checks look at lengths alone
  same_check : checked_as c ≡ checked_as e
  same_check = rw (alike.long, alike.bits)

  same_checked : Lasts c (checked_as c) → Lasts e (checked_as e) → SameSeen (checked_run room p c (checked_as c)) (checked_run room p e (checked_as e))
  same_checked f = subst (λ (r : Refusal). Lasts e r → SameSeen (checked_run room p c (checked_as c)) (checked_run room p e r)) same_check (same_run (checked_as c) f)

-- the code is not the counter
code_kept : (c end : Card) → OnlyCounted c end → CodeKept c end
code_kept c end x = record { first = x.others code₁ (λ z. omega arith); second = x.others code₂ (λ z. omega arith) }

pub code_hidden : CodeHidden
unfolding run_of
code_hidden room log c e a f g = (
  same_checked room (parse log) c e a f g,
  code_kept c (run_of room log c).card (only_counter room log c f),
  code_kept e (run_of room log e).card (only_counter room log e g),
)
