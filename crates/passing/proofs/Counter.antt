-- Until the code has passed, a run changes the counter alone: it loses bits at most.
use Rattle.std.specs.Prelude.{if◌then◌else◌}
use mathlib.Core.Bool.{Bool, false}
use mathlib.Core.List.{List, [], ◌∷◌}
use mathlib.Core.Path.{◌≡◌, refl, ap, ◌∙◌}
use Prim.Native.Nat.{ℕ, suc, ◌/◌, ◌%◌, ◌^◌}
use native.Mathlib.Nat.{le_refl, le_trans}
use native.Mathlib.Omega.{arith}
use lib.Bits.{bit_and, and_le_l}
use lib.ListN.{length, length-set}
use lib.Seq.{get_or-set_other}
use Rattle.cardlog.specs.declared.Record.{Record}
use Rattle.card.specs.Table.{counter}
use Rattle.card.specs.Card.{Card, is_open, cell_at, step, run}
use Rattle.slot.proofs.Rooms.{run_done}
use Rattle.passing.specs.Promises.{done_of, NotOpenFor, clears, OnlyCounted, OnlyCounter}
use Rattle.passing.proofs.Digits.{and_digit}
use Rattle.passing.proofs.Shut.{stored}
use Rattle.passing.proofs.Steps.{mask_of, Leaves, alone, less, leaves}

-- ---- one record

-- the counter then
pub left_counter : (c : Card) (m : ℕ) (n : Card) {b : Bool} → Leaves c m n b →
    cell_at n.cells counter ≡ (if b then bit_and (cell_at c.cells counter) m else cell_at c.cells counter)
left_counter c m n (alone x y) = rw x
left_counter c m n (less f t x y) =
    rw x (stored c.cells counter (bit_and (cell_at c.cells counter) m) (and_le_l (cell_at c.cells counter) m))

pub counter_after : (c : Card) (e : Record) → is_open c.stage ≡ false →
    cell_at (step c e).cells counter ≡ (if clears c e then bit_and (cell_at c.cells counter) (mask_of e) else cell_at c.cells counter)
counter_after c e f = left_counter c (mask_of e) (step c e) (leaves c e f)

-- and all else as it was
left_others : (c : Card) (m : ℕ) (n : Card) {b : Bool} → Leaves c m n b → OnlyCounted c n
left_others c m n (alone x y) =
    record { bits = y; long = ap length x; others = λ a f. ap (λ (l : List ℕ). cell_at l a) x; lost = λ k. rw x (le_refl (cell_at c.cells counter / 2 ^ k % 2)) }
left_others c m n (less f t x y) =
    record {
      bits = y;
      long = rw x (length-set c.cells counter (bit_and (cell_at c.cells counter) m));
      others = λ a g. rw x (get_or-set_other c.cells counter a (bit_and (cell_at c.cells counter) m) 0 g);
      lost = λ k. rw (left_counter c m n (less f t x y)) (and_digit (cell_at c.cells counter) m k);
    }

pub only_step : (c : Card) (e : Record) → is_open c.stage ≡ false → OnlyCounted c (step c e)
only_step c e f = left_others c (mask_of e) (step c e) (leaves c e f)

-- ---- any records

only_none : (c : Card) → OnlyCounted c c
only_none c = record { bits = refl; long = refl; others = λ a f. refl; lost = λ k. le_refl (cell_at c.cells counter / 2 ^ k % 2) }

only_more : (c d e : Card) → OnlyCounted c d → OnlyCounted d e → OnlyCounted c e
only_more c d e x y =
    record {
      bits = y.bits ∙ x.bits;
      long = y.long ∙ x.long;
      others = λ a f. y.others a f ∙ x.others a f;
      lost = λ k. le_trans (y.lost k) (x.lost k);
    }

-- not open as any record begins: not as the first, nor as any of the others
pub not_first : (c : Card) (e : Record) (es : List Record) → NotOpenFor c (e ∷ es) → is_open c.stage ≡ false
unfolding run
not_first c e es f = f 0 (omega arith)

pub not_rest : (c : Card) (e : Record) (es : List Record) → NotOpenFor c (e ∷ es) → NotOpenFor (step c e) es
unfolding run
not_rest c e es f n h = f (suc n) (omega arith)

only_run : (c : Card) (es : List Record) → NotOpenFor c es → OnlyCounted c (run c es)
unfolding run
only_run c [] f = only_none c
only_run c (e ∷ es) f =
    only_more c (step c e) (run (step c e) es) (only_step c e (not_first c e es f)) (only_run (step c e) es (not_rest c e es f))

-- ---- a run

pub only_counter : OnlyCounter
only_counter room log c f = rw (run_done room log c) (only_run c (done_of room log c) f)
