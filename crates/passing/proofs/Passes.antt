-- What opens a card: a counter bit newly cleared, then right compares of the two bytes of the code.
use mathlib.Core.Bool.{Bool, true, false}
use mathlib.Core.List.{List}
use mathlib.Core.Path.{◌≡◌, sym, ap, ◌∙◌}
use Prim.Native.Nat.{ℕ, zero, suc}
use Rattle.cardlog.specs.declared.Record.{Record}
use Rattle.card.specs.Table.{code₁, code₂}
use Rattle.card.specs.Card.{Card, is_open, run}
use Rattle.card.specs.declared.Stage.{Stage}
use Rattle.card.specs.declared.Stage.TheVariants.{Counted, Half, Open}
use Rattle.passing.specs.Promises.{after, clears, right_at, of_first, PassedBy, three_steps, two_steps, one_step, PassesBy}
use Rattle.passing.proofs.Records.{Place, here, past, place}
use Rattle.passing.proofs.Steps.{untrue, StageMove, begun_anew, cleared, first_right, second_right, stayed_open, stage_move, to_counted, to_half, to_open, closed_before}

-- ---- one record back

-- open after it, and not before
open_move : {s : Stage} {x y z : Bool} {n : Stage} → StageMove s x y z n → is_open s ≡ false → is_open n ≡ true → (s ≡ Half) × (z ≡ true)
open_move begun_anew f o = absurd (untrue o)
open_move (cleared t) f o = absurd (untrue o)
open_move (first_right e t) f o = absurd (untrue o)
open_move (second_right e t) f o = (e, t)
open_move (stayed_open e) f o = absurd (untrue (sym f ∙ ap is_open e))

open_by : {c n : Card} {es fs : List Record} → Place c n es fs → is_open c.stage ≡ false → is_open n.stage ≡ true →
    (c.stage ≡ Half) × (of_first (right_at code₂ c) es ≡ true)
open_by {c} (here e es q) f o = open_move (stage_move c e) f (rw q at o)
open_by (past q) f o = absurd (untrue (sym f ∙ (rw q at o)))

-- half given after it, and a record follows
half_move : {s : Stage} {x y z : Bool} {n : Stage} → StageMove s x y z n → n ≡ Half → (s ≡ Counted) × (y ≡ true)
half_move begun_anew o = (cc, cc)
half_move (cleared t) o = (cc, cc)
half_move (first_right e t) o = (e, t)
half_move (second_right e t) o = (cc, cc)
half_move (stayed_open e) o = (cc, cc)

half_by : {c n : Card} {es fs : List Record} → Place c n es fs → n.stage ≡ Half → (t : Record → Bool) → of_first t fs ≡ true →
    (c.stage ≡ Counted) × (of_first (right_at code₁ c) es ≡ true)
half_by {c} (here e es q) o t h = half_move (stage_move c e) (rw q at o)
half_by (past q) o t h = absurd (untrue h)

-- counted after it, and a record follows
counted_move : {s : Stage} {x y z : Bool} {n : Stage} → StageMove s x y z n → n ≡ Counted → x ≡ true
counted_move begun_anew o = cc
counted_move (cleared t) o = t
counted_move (first_right e t) o = cc
counted_move (second_right e t) o = cc
counted_move (stayed_open e) o = cc

counted_by : {c n : Card} {es fs : List Record} → Place c n es fs → n.stage ≡ Counted → (t : Record → Bool) → of_first t fs ≡ true → of_first (clears c) es ≡ true
counted_by {c} (here e es q) o t h = counted_move (stage_move c e) (rw q at o)
counted_by (past q) o t h = absurd (untrue h)

-- ---- and one record forth

counted_on : {c n : Card} {es fs : List Record} → Place c n es fs → of_first (clears c) es ≡ true → is_open n.stage ≡ false → n.stage ≡ Counted
counted_on {c} (here e es q) t f = rw q (to_counted c e t (rw q at f))
counted_on (past q) t f = absurd (untrue t)

half_on : {c n : Card} {es fs : List Record} → Place c n es fs → of_first (right_at code₁ c) es ≡ true → c.stage ≡ Counted → n.stage ≡ Half
half_on {c} (here e es q) t s = rw q (to_half c e t s)
half_on (past q) t s = absurd (untrue t)

open_on : {c n : Card} {es fs : List Record} → Place c n es fs → of_first (right_at code₂ c) es ≡ true → c.stage ≡ Half → n.stage ≡ Open
open_on {c} (here e es q) t s = rw q (to_open c e t s)
open_on (past q) t s = absurd (untrue t)

-- not open behind a compare, so not before it
closed_back : (p : ℕ) {c n : Card} {es fs : List Record} → Place c n es fs → of_first (right_at p c) es ≡ true → is_open n.stage ≡ false → is_open c.stage ≡ false
closed_back p {c} (here e es q) t f = closed_before p c e t (rw q at f)
closed_back p (past q) t f = absurd (untrue t)

-- ---- the three steps, of a card that is not open as the last of them begins

-- an open card came by them
passed_by : (c : Card) (es : List Record) (i : ℕ) → is_open (after c es i).stage ≡ false → is_open (after c es (suc i)).stage ≡ true → PassedBy c es i
unfolding run
passed_by c es zero f o =
    let x = open_by (place c es 0) f o in
    one_step x.0 x.1
passed_by c es (suc zero) f o =
    let x = open_by (place c es 1) f o in
    let y = half_by (place c es 0) x.0 (right_at code₂ (after c es 1)) x.1 in
    two_steps y.0 y.1 x.1
passed_by c es (suc (suc i)) f o =
    let x = open_by (place c es (suc (suc i))) f o in
    let y = half_by (place c es (suc i)) x.0 (right_at code₂ (after c es (suc (suc i)))) x.1 in
    let z = counted_by (place c es i) y.0 (right_at code₁ (after c es (suc i))) y.1 in
    three_steps i z y.1 x.1

-- and they open it
passes : (c : Card) (es : List Record) (i : ℕ) → is_open (after c es i).stage ≡ false → PassedBy c es i → (after c es (suc i)).stage ≡ Open
unfolding run
passes c es _ f (three_steps i z y x) =
    let s : (after c es (suc i)).stage ≡ Counted = counted_on (place c es i) z (closed_back code₁ (place c es (suc i)) y f) in
    open_on (place c es (suc (suc i))) x (half_on (place c es (suc i)) y s)
passes c es _ f (two_steps s y x) = open_on (place c es 1) x (half_on (place c es 0) y s)
passes c es _ f (one_step s x) = open_on (place c es 0) x s

-- exactly those; the card may have been open before, and lost power
pub passes_by : PassesBy
passes_by c es i f = (passed_by c es i f, λ p. ap is_open (passes c es i f p))
