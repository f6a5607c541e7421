-- The code given in bytes opens a card; it stays open until power is lost, and its counter can be restored.
use mathlib.Core.Bool.{true}
use mathlib.Core.List.{[], ◌∷◌}
use mathlib.Core.Path.{◌≡◌, refl}
use Prim.Native.Nat.{ℕ}
use native.Mathlib.Omega.{arith}
use lib.Bits.{bit_and}
use lib.Seq.{get_or-set_same, get_or-set_other}
use borrow.Author.Tests.{eq-eqb}
use Rattle.cardlog.specs.declared.Record.TheVariants.{Sent, Power}
use Rattle.card.specs.Table.{command_of, counter, code₁, code₂}
use Rattle.card.specs.Card.{Card, cell_at, counted, compared, stage_after, commanded, sent, step, run}
use Rattle.card.specs.declared.Command.{Command}
use Rattle.card.specs.declared.Command.TheVariants.{WriteWithBit, Write, Protect, ReadWithBit, Read, Count, Compare, Ignored}
use Rattle.card.specs.declared.Stage.{Stage}
use Rattle.card.specs.declared.Stage.TheVariants.{Fresh, Counted, Half, Open}
use Rattle.passing.specs.Promises.{CodeOpens, unbroken, HoldsOn, PowerUndoes, CounterRestored}

-- the three steps, from any stage
three : (s : Stage) → compared (compared (counted s true) code₁ true) code₂ true ≡ Open
three Fresh = refl
three Counted = refl
three Half = refl
three Open = refl

pub code_opens : CodeOpens
unfolding run step commanded command_of
code_opens c mask t =
    let new : ℕ = bit_and (cell_at c.cells counter) mask in
    rw (
      t,
      get_or-set_other c.cells counter code₁ new 0 (λ z. omega arith),
      get_or-set_other c.cells counter code₂ new 0 (λ z. omega arith),
      eq-eqb (cell_at c.cells code₁) (cell_at c.cells code₁) refl,
      eq-eqb (cell_at c.cells code₂) (cell_at c.cells code₂) refl,
    )
    (three c.stage)

open_after : (c : Card) (k : Command) (a d : ℕ) → c.stage ≡ Open → stage_after c k a d ≡ Open
open_after c WriteWithBit a d o = rw o
open_after c Write a d o = rw o
open_after c Protect a d o = rw o
open_after c ReadWithBit a d o = rw o
open_after c Read a d o = rw o
open_after c Count a d o = rw o
open_after c Compare a d o = rw o
open_after c Ignored a d o = rw o

pub holds_on : HoldsOn
unfolding run step commanded unbroken
holds_on c [] o u = o
holds_on c (Sent first second third ∷ es) o u = holds_on (step c (Sent first second third)) es (open_after c (sent first second) _ third o) u
holds_on c (Power ∷ es) o u = cc

pub power_undoes : PowerUndoes
unfolding step
power_undoes c = refl

pub counter_restored : CounterRestored
unfolding step commanded command_of
counter_restored c h o b = rw (o, b) (get_or-set_same c.cells counter 0xFF 0 h)
