-- One record done: what it leaves of a card that is not open, and how far the code has then been given.
use Rattle.std.specs.Prelude.{if◌then◌else◌}
use mathlib.Core.Bool.{Bool, true, false, ◌&&◌, ◌||◌}
use mathlib.Core.Path.{◌≡◌, refl, sym, subst}
use Prim.Native.Nat.{ℕ, ◌%◌}
use lib.Bits.{bit_and}
use lib.Dec.{T, eqb}
use lib.ListN.{set}
use borrow.Author.Tests.{eqb-true}
use Rattle.part.proofs.Choice.{cond_yes, cond_keep, T_true, true_T, and_l, and_r}
use Rattle.cardlog.specs.declared.Record.{Record}
use Rattle.cardlog.specs.declared.Record.TheVariants.{Sent, Power}
use Rattle.card.specs.Table.{address_of, word, command_of, counter, code₁, code₂}
use Rattle.card.specs.Card.{Card, card, is_open, cell_at, free, clears_one, spends, anew, counted, compared, stage_after, commanded, sent, step}
use Rattle.card.specs.declared.Command.{Command}
use Rattle.card.specs.declared.Command.TheVariants.{WriteWithBit, Write, Protect, ReadWithBit, Read, Count, Compare, Ignored}
use Rattle.card.specs.declared.Stage.{Stage}
use Rattle.card.specs.declared.Stage.TheVariants.{Fresh, Counted, Half, Open}
use Rattle.passing.specs.Promises.{clearing, right, clears, right_at}

-- ---- tests

-- one that fails does not hold
pub untrue : false ≡ true → ⊥
untrue e = subst T (sym e) tt

-- both sides of a test that holds
pub both_l : (a b : Bool) → (a && b) ≡ true → a ≡ true
both_l a b e = T_true a (and_l a b (true_T (a && b) e))

pub both_r : (a b : Bool) → (a && b) ≡ true → b ≡ true
both_r a b e = T_true b (and_r a b (true_T (a && b) e))

-- ---- the counter command stands in the table at the counter alone

-- what a command says of its address
abbrev pub AtCounter : ℕ → Command → Type 0
AtCounter a Count = a ≡ counter
AtCounter a WriteWithBit = Unit
AtCounter a Write = Unit
AtCounter a Protect = Unit
AtCounter a ReadWithBit = Unit
AtCounter a Read = Unit
AtCounter a Compare = Unit
AtCounter a Ignored = Unit

pub at_counter : (w a : ℕ) → AtCounter a (command_of w a)
unfolding command_of
at_counter w a =
    cond_keep (AtCounter a) (eqb w (word 1 0 0 0 1 1)) (λ t. tt)
    (λ f. cond_keep (AtCounter a) (eqb w (word 1 1 0 0 1 1)) (λ t. tt)
    (λ f. cond_keep (AtCounter a) (eqb w (word 0 0 0 0 1 1)) (λ t. tt)
    (λ f. cond_keep (AtCounter a) (eqb w (word 0 0 1 1 0 0)) (λ t. tt)
    (λ f. cond_keep (AtCounter a) (eqb w (word 0 1 1 1 0 0)) (λ t. tt)
    (λ f. cond_keep (AtCounter a) (eqb w (word 0 1 0 0 1 1) && eqb a counter) (λ t. eqb-true a counter (both_r (eqb w (word 0 1 0 0 1 1)) (eqb a counter) t))
    (λ f. cond_keep (AtCounter a) (eqb w (word 1 0 1 1 0 0) && (eqb a code₁ || eqb a code₂)) (λ t. tt) (λ f. tt)))))))

-- ---- what a card that is not open keeps

-- the mask of a counter command: the third byte
abbrev pub mask_of : Record → ℕ
mask_of (Sent first second third) = third
mask_of Power = 0

-- all of it, or all but a bit that the mask clears in the counter
pub data Leaves (c : Card) (mask : ℕ) (next : Card) : Bool → Type 0 where
  alone : next.cells ≡ c.cells → next.bits ≡ c.bits → Leaves c mask next false
  less :
      free c.bits counter ≡ true → clears_one (cell_at c.cells counter) mask ≡ true →
      next.cells ≡ set c.cells counter (bit_and (cell_at c.cells counter) mask) → next.bits ≡ c.bits → Leaves c mask next true

-- the counter command at the counter
leaves_count : (c : Card) (d : ℕ) → Leaves c d (commanded c Count counter d) (spends c.cells c.bits counter d)
unfolding commanded
leaves_count c d = go (spends c.cells c.bits counter d) refl
  where
    go : (b : Bool) → spends c.cells c.bits counter d ≡ b →
        Leaves c d (card (counted c.stage b) (if b then set c.cells counter (bit_and (cell_at c.cells counter) d) else c.cells) c.bits) b
    go true e =
        let f : Bool = free c.bits counter in
        let g : Bool = clears_one (cell_at c.cells counter) d in
        less (both_l f g e) (both_r f g e) refl refl
    go false e = alone refl refl

-- any command
leaves_command : (c : Card) (k : Command) (a d : ℕ) → is_open c.stage ≡ false → AtCounter a k → Leaves c d (commanded c k a d) (clearing k c a d)
unfolding commanded
leaves_command c Count a d e h = rw h (leaves_count c d)
leaves_command c WriteWithBit a d e h = alone (rw e) (rw e)
leaves_command c Write a d e h = alone (rw e) refl
leaves_command c Protect a d e h = alone refl (rw e)
leaves_command c ReadWithBit a d e h = alone refl refl
leaves_command c Read a d e h = alone refl refl
leaves_command c Compare a d e h = alone refl refl
leaves_command c Ignored a d e h = alone refl refl

-- any record
pub leaves : (c : Card) (e : Record) → is_open c.stage ≡ false → Leaves c (mask_of e) (step c e) (clears c e)
unfolding step
leaves c (Sent first second third) e =
    let a : ℕ = address_of first second in
    leaves_command c (sent first second) a third e (at_counter (first % 64) a)
leaves c Power e = alone refl refl

-- ---- how far the code has been given

-- from one stage to another, by three tests: that a bit is cleared, that the first byte is compared right, and that the second is
pub data StageMove (s : Stage) (clear first second : Bool) : Stage → Type 0 where
  begun_anew : StageMove s clear first second Fresh
  cleared : clear ≡ true → StageMove s clear first second Counted
  first_right : s ≡ Counted → first ≡ true → StageMove s clear first second Half
  second_right : s ≡ Half → second ≡ true → StageMove s clear first second Open
  stayed_open : s ≡ Open → StageMove s clear first second Open

-- a command that is no step
move_anew : (s : Stage) (x y z : Bool) → StageMove s x y z (anew s)
move_anew Fresh x y z = begun_anew
move_anew Counted x y z = begun_anew
move_anew Half x y z = begun_anew
move_anew Open x y z = stayed_open refl

-- the counter command: passing holds
open_is : (s : Stage) → is_open s ≡ true → s ≡ Open
open_is Fresh e = absurd (untrue e)
open_is Counted e = absurd (untrue e)
open_is Half e = absurd (untrue e)
open_is Open e = refl

move_count : (s : Stage) (b : Bool) → StageMove s b false false (counted s b)
move_count s b =
    cond_keep (StageMove s b false false) (is_open s) (λ o. stayed_open (open_is s o)) (λ f. cond_keep (StageMove s b false false) b (λ t. cleared t) (λ f. begun_anew))

-- a compare
move_compare : (s : Stage) (a : ℕ) (r : Bool) → StageMove s false (eqb a code₁ && r) (eqb a code₂ && r) (compared s a r)
move_compare Fresh a r = begun_anew
move_compare Counted a r =
    cond_keep (StageMove Counted false (eqb a code₁ && r) (eqb a code₂ && r)) (eqb a code₁ && r) (λ t. first_right refl t) (λ f. begun_anew)
move_compare Half a r =
    cond_keep (StageMove Half false (eqb a code₁ && r) (eqb a code₂ && r)) (eqb a code₂ && r) (λ t. second_right refl t) (λ f. begun_anew)
move_compare Open a r = stayed_open refl

-- any command
move_command : (c : Card) (k : Command) (a d : ℕ) → StageMove c.stage (clearing k c a d) (right k c a d code₁) (right k c a d code₂) (stage_after c k a d)
move_command c Count a d = move_count c.stage (spends c.cells c.bits a d)
move_command c Compare a d = move_compare c.stage a (eqb (cell_at c.cells a) d)
move_command c WriteWithBit a d = move_anew c.stage false false false
move_command c Write a d = move_anew c.stage false false false
move_command c Protect a d = move_anew c.stage false false false
move_command c ReadWithBit a d = move_anew c.stage false false false
move_command c Read a d = move_anew c.stage false false false
move_command c Ignored a d = move_anew c.stage false false false

-- any record
pub stage_move : (c : Card) (e : Record) → StageMove c.stage (clears c e) (right_at code₁ c e) (right_at code₂ c e) (step c e).stage
unfolding step commanded
stage_move c (Sent first second third) = move_command c (sent first second) (address_of first second) third
stage_move c Power = begun_anew

-- ---- and the other way: each step is taken where its test holds

-- a bit cleared, where the card is not open then
clear_takes : (c : Card) (k : Command) (a d : ℕ) → clearing k c a d ≡ true → is_open (stage_after c k a d) ≡ false → stage_after c k a d ≡ Counted
clear_takes c Count a d t f = rw t (go (is_open c.stage) (rw t at f))
  where
    go : (b : Bool) → is_open (if b then Open else Counted) ≡ false → (if b then Open else Counted) ≡ Counted
    go true f = absurd (untrue (sym f))
    go false f = refl
clear_takes c Compare a d t f = absurd (untrue t)
clear_takes c WriteWithBit a d t f = absurd (untrue t)
clear_takes c Write a d t f = absurd (untrue t)
clear_takes c Protect a d t f = absurd (untrue t)
clear_takes c ReadWithBit a d t f = absurd (untrue t)
clear_takes c Read a d t f = absurd (untrue t)
clear_takes c Ignored a d t f = absurd (untrue t)

pub to_counted : (c : Card) (e : Record) → clears c e ≡ true → is_open (step c e).stage ≡ false → (step c e).stage ≡ Counted
unfolding step commanded
to_counted c (Sent first second third) t f = clear_takes c (sent first second) (address_of first second) third t f
to_counted c Power t f = absurd (untrue t)

-- a byte of the code compared right: what holds of such a compare, from stage to stage, holds of the record
module _ (p : ℕ) (P : Stage → Stage → Type 0) (on : (s : Stage) (a : ℕ) (r : Bool) → (eqb a p && r) ≡ true → P s (compared s a r)) where
  right_takes : (c : Card) (k : Command) (a d : ℕ) → right k c a d p ≡ true → P c.stage (stage_after c k a d)
  right_takes c Compare a d t = on c.stage a (eqb (cell_at c.cells a) d) t
  right_takes c Count a d t = absurd (untrue t)
  right_takes c WriteWithBit a d t = absurd (untrue t)
  right_takes c Write a d t = absurd (untrue t)
  right_takes c Protect a d t = absurd (untrue t)
  right_takes c ReadWithBit a d t = absurd (untrue t)
  right_takes c Read a d t = absurd (untrue t)
  right_takes c Ignored a d t = absurd (untrue t)

  right_to : (c : Card) (e : Record) → right_at p c e ≡ true → P c.stage (step c e).stage
  unfolding step commanded
  right_to c (Sent first second third) t = right_takes c (sent first second) (address_of first second) third t
  right_to c Power t = absurd (untrue t)

pub to_half : (c : Card) (e : Record) → right_at code₁ c e ≡ true → c.stage ≡ Counted → (step c e).stage ≡ Half
to_half = right_to code₁ (λ (s n : Stage). s ≡ Counted → n ≡ Half) (λ s a r t e. rw e (cond_yes (eqb a code₁ && r) Half Fresh t))

pub to_open : (c : Card) (e : Record) → right_at code₂ c e ≡ true → c.stage ≡ Half → (step c e).stage ≡ Open
to_open = right_to code₂ (λ (s n : Stage). s ≡ Half → n ≡ Open) (λ s a r t e. rw e (cond_yes (eqb a code₂ && r) Open Fresh t))

-- a compare does not shut a card
closed_compare : (s : Stage) (a : ℕ) (r : Bool) → is_open (compared s a r) ≡ false → is_open s ≡ false
closed_compare Fresh a r f = refl
closed_compare Counted a r f = refl
closed_compare Half a r f = refl
closed_compare Open a r f = f

pub closed_before : (p : ℕ) (c : Card) (e : Record) → right_at p c e ≡ true → is_open (step c e).stage ≡ false → is_open c.stage ≡ false
closed_before p = right_to p (λ (s n : Stage). is_open n ≡ false → is_open s ≡ false) (λ s a r t. closed_compare s a r)
