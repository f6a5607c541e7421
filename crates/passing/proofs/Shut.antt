-- A protect bit made 0 is that bit and no other.
use Rattle.std.specs.Prelude.{if◌then◌else◌}
use mathlib.Core.Bool.{Bool, true, false}
use mathlib.Core.List.{List, [], ◌∷◌}
use mathlib.Core.Path.{◌≡◌, refl, sym, ap, ◌∙◌}
use Prim.Native.Nat.{ℕ, zero, suc, ◌-◌, ◌*◌, ◌/◌, ◌%◌, ◌^◌, ◌≤◌}
use native.Mathlib.Nat.{le_trans, mod-le, div-one, div-mul-le_self, mul-le-mul_right, mul_left_comm, pow-succ'}
use native.Mathlib.Omega.{arith}
use lib.Dec.{eqb}
use lib.ListN.{get_or, set}
use lib.Seq.{get_or-set_other}
use borrow.Author.Tests.{eqb-true, eqb-false}
use Rattle.card.specs.Card.{bit_at, shut}
use Rattle.passing.specs.Promises.{ShutsOne}
use Rattle.passing.proofs.Digits.{half_digit}

-- ---- a number less one of its digits

abbrev taken : ℕ → ℕ → ℕ
taken v j = v - v / 2 ^ j % 2 * 2 ^ j

-- the digit at its place is within the number
digit_in : (v j : ℕ) → v / 2 ^ j % 2 * 2 ^ j ≤ v
digit_in v j = le_trans (mul-le-mul_right (2 ^ j) (mod-le (v / 2 ^ j) 2)) (div-mul-le_self v (2 ^ j))

-- it is twice the one of the half, where it is not the lowest
digit_twice : (v j : ℕ) → v / 2 ^ suc j % 2 * 2 ^ suc j ≡ 2 * (v / 2 / 2 ^ j % 2 * 2 ^ j)
digit_twice v j = rw (half_digit v j, pow-succ' 2 j) (mul_left_comm (v / (2 * 2 ^ j) % 2) 2 (2 ^ j))

taken_half : (v j : ℕ) → taken v (suc j) / 2 ≡ taken (v / 2) j
taken_half v j = rw (digit_twice v j) (omega arith)

taken_low : (v j : ℕ) → taken v (suc j) % 2 ≡ v % 2
taken_low v j = rw (digit_twice v j) (omega (arith, digit_in (v / 2) j))

-- that digit is then 0
taken_same : (v j : ℕ) → taken v j / 2 ^ j % 2 ≡ 0
taken_same v zero = rw (div-one v) (rw div-one (omega arith))
taken_same v (suc j) = rw (← half_digit (taken v (suc j)) j, taken_half v j) (taken_same (v / 2) j)

-- and every other as it was
taken_other : (v j k : ℕ) → ¬ (k ≡ j) → taken v j / 2 ^ k % 2 ≡ v / 2 ^ k % 2
taken_other v zero zero f = absurd (f refl)
taken_other v zero (suc k) f = rw (← half_digit (taken v zero) k, ← half_digit v k) (ap (λ (x : ℕ). x / 2 ^ k % 2) (half v))
  where
    half : (v : ℕ) → taken v zero / 2 ≡ v / 2
    half v = rw (div-one v) (omega arith)
taken_other v (suc j) zero f = ap (λ (x : ℕ). x % 2) (div-one (taken v (suc j))) ∙ taken_low v j ∙ ap (λ (x : ℕ). x % 2) (sym (div-one v))
taken_other v (suc j) (suc k) f =
    rw (← half_digit (taken v (suc j)) k, ← half_digit v k, taken_half v j) (taken_other (v / 2) j k (λ e. f (ap suc e)))

-- ---- in a list

-- a number stored that is not above the one there; past the end both are 0
pub stored : (l : List ℕ) (i v : ℕ) → v ≤ get_or l i 0 → get_or (set l i v) i 0 ≡ v
stored [] i v h = omega arith
stored (x ∷ l) zero v h = refl
stored (x ∷ l) (suc i) v h = stored l i v h

pub shuts_one : ShutsOne
unfolding shut
shuts_one bits a b = go (eqb b a) refl
  where
    v : ℕ
    v = get_or bits (a / 8) 0

    at : get_or (set bits (a / 8) (taken v (a % 8))) (a / 8) 0 ≡ taken v (a % 8)
    at = stored bits (a / 8) (taken v (a % 8)) (omega arith)

    other : ¬ (b ≡ a) → (t : Bool) → eqb (b / 8) (a / 8) ≡ t → bit_at (shut bits a) b ≡ bit_at bits b
    other f true t =
        let e : b / 8 ≡ a / 8 = eqb-true (b / 8) (a / 8) t in
        rw (e, at) (taken_other v (a % 8) (b % 8) (λ z. f (omega arith)))
    other f false t = ap (λ (x : ℕ). x / 2 ^ (b % 8) % 2) (get_or-set_other bits (a / 8) (b / 8) (taken v (a % 8)) 0 (eqb-false (b / 8) (a / 8) t))

    go : (t : Bool) → eqb b a ≡ t → bit_at (shut bits a) b ≡ (if t then 0 else bit_at bits b)
    go true t = rw (eqb-true b a t, at) (taken_same v (a % 8))
    go false t = other (eqb-false b a t) (eqb (b / 8) (a / 8)) refl
