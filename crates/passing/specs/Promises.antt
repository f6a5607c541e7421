-- What no card log can do, what opens a card, and how often that can be tried. The log, the room and the card are any; of a refused log it
-- is the records done.
use Rattle.std.specs.Prelude.{Bool, true, false, ◌&&◌, List, [], ◌∷◌, ◌↔◌, ◌⊎◌, ◌≡◌, ℕ, suc, ◌+◌, ◌/◌, ◌%◌, ◌^◌, ◌≤◌, ◌<◌, eqb, length, take, drop, if◌then◌else◌}
use Rattle.std.specs.Int.Bits.{bit_and}
use Rattle.std.specs.Int.Count.{ones}
use Rattle.cardlog.specs.Read.{parse}
use Rattle.cardlog.specs.declared.Record.{Record}
use Rattle.cardlog.specs.declared.Record.TheVariants.{Sent, Power}
use Rattle.card.specs.Table.{address_of, counter, code₁, code₂}
use Rattle.card.specs.Card.{Card, card, is_open, cell_at, bit_at, shut, clears_one, spends, sent, step, run}
use Rattle.card.specs.declared.Command.{Command}
use Rattle.card.specs.declared.Command.TheVariants.{WriteWithBit, Write, Protect, ReadWithBit, Read, Count, Compare, Ignored}
use Rattle.card.specs.declared.Stage.TheVariants.{Fresh, Counted, Half, Open}
use Rattle.slot.specs.Runs.{Outcome, run_of}

-- ---- the card along a log

-- the records that a run does
abbrev pub done_of : ℕ → List ℕ → Card → List Record
done_of room log c = take (run_of room log c).records (parse log).records

-- the card after the first n of some records
abbrev pub after : Card → List Record → ℕ → Card
after c es n = run c (take n es)

-- not open as any of some records begins; the last of them may open it
abbrev pub NotOpenFor : Card → List Record → Type 0
NotOpenFor c es = (n : ℕ) → n < length es → is_open (after c es n).stage ≡ false

-- ---- "a byte whose protect bit is 0 never changes"

-- a protect bit made 0 is that bit and no other
abbrev pub ShutsOne : Type 0
ShutsOne = (bits : List ℕ) (a b : ℕ) → bit_at (shut bits a) b ≡ (if eqb b a then 0 else bit_at bits b)

-- over any log; nor does its bit become 1 again
abbrev pub NeverChanges : Type 0
NeverChanges =
    (room : ℕ) (log : List ℕ) (c : Card) (a : ℕ) → bit_at c.bits a ≡ 0 →
    (cell_at (run_of room log c).card.cells a ≡ cell_at c.cells a) × (bit_at (run_of room log c).card.bits a ≡ 0)

-- ---- "until the security code has passed, only this command, on the counter at 1021, changes a byte or a protect bit"

-- what a card has become: the counter has lost bits at most, all else but the stage is as it was
pub record OnlyCounted (c end : Card) : Type 0 where
  pub bits : end.bits ≡ c.bits
  pub long : length end.cells ≡ length c.cells
  pub others : (a : ℕ) → ¬ (a ≡ counter) → cell_at end.cells a ≡ cell_at c.cells a
  pub lost : (k : ℕ) → cell_at end.cells counter / 2 ^ k % 2 ≤ cell_at c.cells counter / 2 ^ k % 2

abbrev pub OnlyCounter : Type 0
OnlyCounter = (room : ℕ) (log : List ℕ) (c : Card) → NotOpenFor c (done_of room log c) → OnlyCounted c (run_of room log c).card

-- ---- nothing is told of the code but by opening

-- two cards that are equal but for the code and the stage
pub record Alike (c e : Card) : Type 0 where
  pub bits : c.bits ≡ e.bits
  pub long : length c.cells ≡ length e.cells
  pub cells : (a : ℕ) → ¬ (a ≡ code₁) → ¬ (a ≡ code₂) → cell_at c.cells a ≡ cell_at e.cells a

-- two runs of which the same comes back, but for the stage and the code
pub record SameSeen (o p : Outcome) : Type 0 where
  pub refusal : o.refusal ≡ p.refusal
  pub records : o.records ≡ p.records
  pub used : o.used ≡ p.used
  pub output : o.output ≡ p.output
  pub cards : Alike o.card p.card

-- the code is as it was
pub record CodeKept (c end : Card) : Type 0 where
  pub first : cell_at end.cells code₁ ≡ cell_at c.cells code₁
  pub second : cell_at end.cells code₂ ≡ cell_at c.cells code₂

-- two cards of which neither is open as a record begins give the same, but for the stage, and keep the code
abbrev pub CodeHidden : Type 0
CodeHidden =
    (room : ℕ) (log : List ℕ) (c e : Card) → Alike c e → NotOpenFor c (done_of room log c) → NotOpenFor e (done_of room log e) →
    SameSeen (run_of room log c) (run_of room log e) × CodeKept c (run_of room log c).card × CodeKept e (run_of room log e).card

-- ---- "passing takes a counter bit newly cleared, then right compares of 1022 and of 1023"

-- a counter command that clears a bit
abbrev pub clearing : Command → Card → ℕ → ℕ → Bool
clearing Count c a d = spends c.cells c.bits a d
clearing WriteWithBit c a d = false
clearing Write c a d = false
clearing Protect c a d = false
clearing ReadWithBit c a d = false
clearing Read c a d = false
clearing Compare c a d = false
clearing Ignored c a d = false

-- a right compare, of the code byte at p
abbrev pub right : Command → Card → ℕ → ℕ → ℕ → Bool
right Compare c a d p = eqb a p && eqb (cell_at c.cells a) d
right WriteWithBit c a d p = false
right Write c a d p = false
right Protect c a d p = false
right ReadWithBit c a d p = false
right Read c a d p = false
right Count c a d p = false
right Ignored c a d p = false

-- the same of a record, on the card as it is then
abbrev pub clears : Card → Record → Bool
clears c (Sent first second third) = clearing (sent first second) c (address_of first second) third
clears c Power = false

abbrev pub right_at : ℕ → Card → Record → Bool
right_at p c (Sent first second third) = right (sent first second) c (address_of first second) third p
right_at p c Power = false

-- a test of the first record of a list; false where there is none
abbrev pub of_first : (Record → Bool) → List Record → Bool
of_first t [] = false
of_first t (e ∷ es) = t e

-- a test of record i, on the card before it
abbrev pub holds_at : (Card → Record → Bool) → Card → List Record → ℕ → Type 0
holds_at t c es i = of_first (t (after c es i)) (drop i es) ≡ true

-- the three steps end with record i; the first one or two may have been taken at the start
pub data PassedBy (c : Card) (es : List Record) : ℕ → Type 0 where
  three_steps : (i : ℕ) → holds_at clears c es i → holds_at (right_at code₁) c es (suc i) → holds_at (right_at code₂) c es (suc (suc i)) → PassedBy c es (suc (suc i))
  two_steps : c.stage ≡ Counted → holds_at (right_at code₁) c es 0 → holds_at (right_at code₂) c es 1 → PassedBy c es 1
  one_step : c.stage ≡ Half → holds_at (right_at code₂) c es 0 → PassedBy c es 0

-- a card that is not open as record i begins is open after it exactly when the three steps end with it
abbrev pub PassesBy : Type 0
PassesBy = (c : Card) (es : List Record) (i : ℕ) → is_open (after c es i).stage ≡ false → is_open (after c es (suc i)).stage ≡ true ↔ PassedBy c es i

-- in bytes: the counter command with a mask that clears a bit, and the two compares with what the code is
abbrev pub CodeOpens : Type 0
CodeOpens =
    (c : Card) (mask : ℕ) → spends c.cells c.bits counter mask ≡ true →
    (run c (Sent 0xF2 0xFD mask ∷ Sent 0xCD 0xFE (cell_at c.cells code₁) ∷ Sent 0xCD 0xFF (cell_at c.cells code₂) ∷ [])).stage ≡ Open

-- ---- "it holds until power is lost, which also undoes steps already taken; while it holds the counter may be written FFh"

-- no power is lost in some records
unfoldable pub unbroken : List Record → Bool
unbroken [] = true
unbroken (Sent first second third ∷ es) = unbroken es
unbroken (Power ∷ es) = false

abbrev pub HoldsOn : Type 0
HoldsOn = (c : Card) (es : List Record) → c.stage ≡ Open → unbroken es ≡ true → (run c es).stage ≡ Open

-- cells and bits outlive it
abbrev pub PowerUndoes : Type 0
PowerUndoes = (c : Card) → step c Power ≡ card Fresh c.cells c.bits

-- in bytes: the write without protect bit at 1021, of a counter that may change
abbrev pub CounterRestored : Type 0
CounterRestored =
    (c : Card) → counter < length c.cells → c.stage ≡ Open → bit_at c.bits counter ≡ 1 →
    cell_at (step c (Sent 0xF3 0xFD 0xFF)).cells counter ≡ 0xFF

-- ---- how often it can be tried

-- one bit that was 1 is 0, and all others are as they were
pub record OneBitLess (old new : ℕ) : Type 0 where
  pub bit : ℕ
  pub was : old / 2 ^ bit % 2 ≡ 1
  pub is : new / 2 ^ bit % 2 ≡ 0
  pub others : (k : ℕ) → ¬ (k ≡ bit) → new / 2 ^ k % 2 ≡ old / 2 ^ k % 2

-- "if that clears exactly one bit"
abbrev pub ClearsExactly : Type 0
ClearsExactly = (old mask : ℕ) → clears_one old mask ≡ true ↔ OneBitLess old (bit_and old mask)

-- the counter commands among some records that clear a bit
unfoldable pub clearings : Card → List Record → ℕ
clearings c [] = 0
clearings c (e ∷ es) = (if clears c e then 1 else 0) + clearings (step c e) es

-- up to and with the record that opens the card, they and the bits then left make the bits at the start
abbrev pub Tries : Type 0
Tries = (c : Card) (es : List Record) → NotOpenFor c es → clearings c es + ones (cell_at (run c es).cells counter) ≡ ones (cell_at c.cells counter)

-- so there are eight at most
abbrev pub AtMostEight : Type 0
AtMostEight = (c : Card) (es : List Record) → cell_at c.cells counter < 256 → NotOpenFor c es → clearings c es ≤ 8

-- a card that can never be opened: no step is taken, and no bit is left in the counter or the counter cannot change
abbrev pub Spent : Card → Type 0
Spent c = (c.stage ≡ Fresh) × ((cell_at c.cells counter ≡ 0) ⊎ (bit_at c.bits counter ≡ 0))

abbrev pub NeverOpens : Type 0
NeverOpens = (c : Card) (es : List Record) → Spent c → (n : ℕ) → is_open (after c es n).stage ≡ false
