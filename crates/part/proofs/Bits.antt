-- Laws of binary digits that the library lacks: the lowest digit of a number put together from its digits, and of an AND.
use mathlib.Core.Path.{◌≡◌, ap, ◌∙◌}
use Prim.Native.Nat.{ℕ, ◌+◌, ◌*◌, ◌/◌, ◌%◌, ◌<◌, min}
use native.Mathlib.Omega.{arith}
use lib.Bits.{bit_and, and_step}

-- a digit put behind a number is its lowest
pub step_odd : (q r : ℕ) → r < 2 → (q * 2 + r) % 2 ≡ r
step_odd q r h = omega arith

-- of an AND
pub and_odd : (a b : ℕ) → bit_and a b % 2 ≡ min (a % 2) (b % 2)
and_odd a b = ap (λ (x : ℕ). x % 2) (and_step a b) ∙ step_odd (bit_and (a / 2) (b / 2)) (min (a % 2) (b % 2)) (omega arith)
