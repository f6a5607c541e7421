-- Whether a call is refused, from the number of its answer.
use Rattle.std.specs.Prelude.{if◌then◌else◌, Result, Ok, Err}
use mathlib.Core.Path.{◌≡◌, refl, sym, ap, ◌∙◌}
use Prim.Native.Nat.{ℕ, ◌<◌}
use native.Mathlib.Omega.{arith}
use lib.Dec.{eqb}
use Rattle.keeper.specs.declared.Refused.{Refused}
use Rattle.keeper.specs.declared.Refused.TheVariants.{BadCore, QueueFull, AllEmpty, BadKeeper}
use Rattle.keeper.specs.Keeper.{number_of, number_in}

-- a refusal's number is not 0
numbered : (r : Refused) → 0 < number_of r
numbered BadCore = omega arith
numbered QueueFull = omega arith
numbered AllEmpty = omega arith
numbered BadKeeper = omega arith

-- where the number is 0 nothing is refused
pub given : {A : Type 0} (a : Result A Refused) → number_in a ≡ 0 → (x : A) × (a ≡ Ok x)
given (Ok x) e = (x, refl)
given (Err r) e = let n : 0 < number_of r = numbered r in absurd (omega (arith, n, e))

-- the refusal of a number
abbrev refused_by : ℕ → Refused
refused_by n = if eqb n 14 then BadCore else if eqb n 15 then QueueFull else if eqb n 16 then AllEmpty else BadKeeper

number_told : (r : Refused) → refused_by (number_of r) ≡ r
number_told BadCore = refl
number_told QueueFull = refl
number_told AllEmpty = refl
number_told BadKeeper = refl

-- what has a refusal's number is refused so
pub denied : {A : Type 0} (a : Result A Refused) (r : Refused) → number_in a ≡ number_of r → a ≡ Err r
denied (Ok x) r e = let n : 0 < number_of r = numbered r in absurd (omega (arith, n, e))
denied (Err s) r e = ap Err (sym (number_told s) ∙ ap refused_by e ∙ number_told r)
