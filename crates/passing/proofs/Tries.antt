-- How often the code can be tried: each try takes a bit of the counter, and where none can be taken the card never opens.
use Rattle.std.specs.Prelude.{if◌then◌else◌}
use mathlib.Core.Bool.{Bool, false}
use mathlib.Core.List.{List, [], ◌∷◌}
use mathlib.Core.Logic.{◌⊎◌, inl, inr}
use mathlib.Core.Path.{◌≡◌, refl, ap}
use Prim.Native.Nat.{ℕ, zero, suc, ◌+◌}
use native.Mathlib.Omega.{arith}
use lib.Bits.{bit_and}
use lib.Count.{ones, ones_in, ones-le}
use borrow.Author.Tests.{eqb-true}
use Rattle.cardlog.specs.declared.Record.{Record}
use Rattle.card.specs.Table.{counter}
use Rattle.card.specs.Card.{Card, is_open, cell_at, bit_at, step, run}
use Rattle.card.specs.declared.Stage.{Stage}
use Rattle.card.specs.declared.Stage.TheVariants.{Fresh}
use Rattle.passing.specs.Promises.{after, clearings, Tries, AtMostEight, Spent, NeverOpens}
use Rattle.passing.proofs.Digits.{clears_fewer}
use Rattle.passing.proofs.Counter.{left_counter, not_first, not_rest}
use Rattle.passing.proofs.Steps.{mask_of, Leaves, alone, less, leaves, StageMove, begun_anew, cleared, first_right, second_right, stayed_open, stage_move}

-- ---- the bits of the counter

-- a record takes one where it clears one
left_ones : (c : Card) (m : ℕ) (n : Card) {b : Bool} → Leaves c m n b → (if b then 1 else 0) + ones (cell_at n.cells counter) ≡ ones (cell_at c.cells counter)
left_ones c m n (alone x y) = rw x (omega arith)
left_ones c m n (less f t x y) = rw (left_counter c m n (less f t x y)) (omega (arith, clears_fewer (cell_at c.cells counter) m t))

-- so do records, as long as the card is not open before one
pub tries : Tries
unfolding run clearings
tries c [] f = omega arith
tries c (e ∷ es) f = omega (arith, left_ones c (mask_of e) (step c e) (leaves c e (not_first c e es f)), tries (step c e) es (not_rest c e es f))

pub at_most_eight : AtMostEight
at_most_eight c es h f = omega (arith, tries c es f, ones-le 8 (cell_at c.cells counter) h)

-- ---- a card that can never be opened

-- no bit is left, or the counter cannot change
abbrev NoneLeft : Card → Type 0
NoneLeft c = (cell_at c.cells counter ≡ 0) ⊎ (bit_at c.bits counter ≡ 0)

-- so none is cleared
none_cleared : (c : Card) (m : ℕ) (n : Card) {b : Bool} → Leaves c m n b → NoneLeft c → (b ≡ false) × NoneLeft n
unfolding ones ones_in
none_cleared c m n (alone x y) (inl z) = (refl, inl (rw x z))
none_cleared c m n (alone x y) (inr z) = (refl, inr (rw y z))
none_cleared c m n (less f t x y) (inl z) =
    let e : ones 0 ≡ ones (bit_and 0 m) + 1 = clears_fewer 0 m (rw z at t) in
    absurd (omega arith)
none_cleared c m n (less f t x y) (inr z) = absurd (omega (arith, eqb-true (bit_at c.bits counter) 1 f))

-- and no step is taken
stays_fresh : {s : Stage} {x y z : Bool} {n : Stage} → StageMove s x y z n → s ≡ Fresh → x ≡ false → n ≡ Fresh
stays_fresh begun_anew e f = refl
stays_fresh (cleared t) e f = cc
stays_fresh (first_right s t) e f = cc
stays_fresh (second_right s t) e f = cc
stays_fresh (stayed_open s) e f = cc

spent_step : (c : Card) (e : Record) → Spent c → Spent (step c e)
spent_step c e s =
    let f : is_open c.stage ≡ false = ap is_open s.0 in
    let x = none_cleared c (mask_of e) (step c e) (leaves c e f) s.1 in
    (stays_fresh (stage_move c e) s.0 x.0, x.1)

never : (c : Card) (es : List Record) → Spent c → (n : ℕ) → is_open (after c es n).stage ≡ false
unfolding run
never c es s zero = ap is_open s.0
never c [] s (suc n) = ap is_open s.0
never c (e ∷ es) s (suc n) = never (step c e) es (spent_step c e s) n

pub never_opens : NeverOpens
never_opens c es s n = never c es s n
