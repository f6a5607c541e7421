-- The card before and after each record of a list.
use mathlib.Core.List.{List, [], ◌∷◌}
use mathlib.Core.Path.{◌≡◌, refl}
use Prim.Native.Nat.{ℕ, zero, suc}
use lib.ListN.{drop}
use Rattle.cardlog.specs.declared.Record.{Record}
use Rattle.card.specs.Card.{Card, step, run}
use Rattle.passing.specs.Promises.{after}

-- the card before a record and after it, the records from it on and behind it; past the last nothing is done
pub data Place (now next : Card) : List Record → List Record → Type 0 where
  here : (e : Record) (es : List Record) → next ≡ step now e → Place now next (e ∷ es) es
  past : next ≡ now → Place now next [] []

pub place : (c : Card) (es : List Record) (i : ℕ) → Place (after c es i) (after c es (suc i)) (drop i es) (drop (suc i) es)
unfolding run
place c [] zero = past refl
place c [] (suc i) = past refl
place c (e ∷ es) zero = here e es refl
place c (e ∷ es) (suc i) = place (step c e) es i
