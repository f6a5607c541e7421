-- A byte whose protect bit is 0 never changes, and its bit stays 0.
use Rattle.std.specs.Prelude.{if◌then◌else◌}
use mathlib.Core.Bool.{Bool, true, ◌&&◌}
use mathlib.Core.List.{List, [], ◌∷◌}
use mathlib.Core.Path.{◌≡◌, refl, ap, ◌∙◌}
use Prim.Native.Nat.{ℕ}
use native.Mathlib.Omega.{arith}
use lib.Bits.{bit_and}
use lib.Dec.{eqb}
use lib.ListN.{set}
use lib.Seq.{get_or-set_other}
use borrow.Author.Tests.{eqb-true}
use Rattle.part.proofs.Choice.{cond_keep}
use Rattle.cardlog.specs.declared.Record.{Record}
use Rattle.cardlog.specs.declared.Record.TheVariants.{Sent, Power}
use Rattle.card.specs.Table.{address_of}
use Rattle.card.specs.Card.{Card, is_open, cell_at, bit_at, free, shut, clears_one, spends, writable, commanded, sent, step, run}
use Rattle.card.specs.declared.Command.{Command}
use Rattle.card.specs.declared.Command.TheVariants.{WriteWithBit, Write, Protect, ReadWithBit, Read, Count, Compare, Ignored}
use Rattle.slot.proofs.Rooms.{run_done}
use Rattle.passing.specs.Promises.{done_of, NeverChanges}
use Rattle.passing.proofs.Shut.{shuts_one}
use Rattle.passing.proofs.Steps.{both_l, both_r}

-- an address whose bit is 0 is no address that may change
other_address : (bits : List ℕ) (a b : ℕ) → bit_at bits a ≡ 0 → free bits b ≡ true → ¬ (a ≡ b)
other_address bits a b h f e =
    let x : bit_at bits b ≡ 1 = eqb-true (bit_at bits b) 1 f in
    let y : bit_at bits a ≡ bit_at bits b = ap (bit_at bits) e in
    omega arith

module _ (a : ℕ) where
  -- the byte is as it was, and its bit is 0
  abbrev Keeps : Card → Card → Type 0
  Keeps c end = (cell_at end.cells a ≡ cell_at c.cells a) × (bit_at end.bits a ≡ 0)

  -- ---- one command

  module _ (c : Card) (h : bit_at c.bits a ≡ 0) where
    -- a byte put in where a test says, if that has the bit of the byte be 1
    put_in : (t : Bool) (b d : ℕ) → (t ≡ true → free c.bits b ≡ true) → cell_at (if t then set c.cells b d else c.cells) a ≡ cell_at c.cells a
    put_in t b d f =
        cond_keep (λ (l : List ℕ). cell_at l a ≡ cell_at c.cells a) t (λ e. get_or-set_other c.cells b a d 0 (other_address c.bits a b h (f e))) (λ e. refl)

    -- a bit made 0 where a test says
    made_zero : (t : Bool) (b : ℕ) → bit_at (if t then shut c.bits b else c.bits) a ≡ 0
    made_zero t b =
        cond_keep (λ (l : List ℕ). bit_at l a ≡ 0) t
        (λ e. shuts_one c.bits b a ∙ cond_keep (λ (x : ℕ). x ≡ 0) (eqb a b) (λ e. refl) (λ e. h)) (λ e. h)

    may_write : (b : ℕ) → writable c.stage c.bits b ≡ true → free c.bits b ≡ true
    may_write b = both_r (is_open c.stage) (free c.bits b)

    may_count : (b d : ℕ) → spends c.cells c.bits b d ≡ true → free c.bits b ≡ true
    may_count b d = both_l (free c.bits b) (clears_one (cell_at c.cells b) d)

    keeps_command : (k : Command) (b d : ℕ) → Keeps c (commanded c k b d)
    unfolding commanded
    keeps_command WriteWithBit b d = (put_in (writable c.stage c.bits b) b d (may_write b), made_zero (writable c.stage c.bits b) b)
    keeps_command Write b d = (put_in (writable c.stage c.bits b) b d (may_write b), h)
    keeps_command Count b d = (put_in (spends c.cells c.bits b d) b (bit_and (cell_at c.cells b) d) (may_count b d), h)
    keeps_command Protect b d = (refl, made_zero (is_open c.stage && eqb (cell_at c.cells b) d) b)
    keeps_command ReadWithBit b d = (refl, h)
    keeps_command Read b d = (refl, h)
    keeps_command Compare b d = (refl, h)
    keeps_command Ignored b d = (refl, h)

    keeps_step : (e : Record) → Keeps c (step c e)
    unfolding step
    keeps_step (Sent first second third) = keeps_command (sent first second) (address_of first second) third
    keeps_step Power = (refl, h)

  -- ---- any records

  keeps_run : (c : Card) (es : List Record) → bit_at c.bits a ≡ 0 → Keeps c (run c es)
  unfolding run
  keeps_run c [] h = (refl, h)
  keeps_run c (e ∷ es) h =
      let x = keeps_step c h e in
      let y = keeps_run (step c e) es x.1 in
      (y.0 ∙ x.0, y.1)

pub never_changes : NeverChanges
never_changes room log c a h = rw (run_done room log c) (keeps_run a c (done_of room log c) h)
