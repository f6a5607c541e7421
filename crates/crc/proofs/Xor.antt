-- Laws of XOR that the library lacks: it groups either way, takes itself back, and moves up with its operands.
use mathlib.Core.Path.{◌≡◌, refl, sym, ap, ap₂, ◌∙◌}
use Prim.Native.Nat.{ℕ, zero, suc, ◌+◌, ◌*◌, ◌/◌, ◌%◌, ◌<◌}
use native.Mathlib.Nat.{add-zero}
use native.Mathlib.Omega.{arith}
use lib.Arith.{bin_ind}
use lib.Bits.{bit_xor, differ, xor_step, xor_zero_l, xor_comm, xor_self, xor_shr, xor_block}
use Rattle.part.proofs.Bits.{step_odd}

differ_lt : (x y : ℕ) → x < 2 → y < 2 → differ x y < 2
differ_lt zero y hx hy = hy
differ_lt (suc x) zero hx hy = hx
differ_lt (suc zero) (suc y) hx hy = omega arith
differ_lt (suc (suc x)) (suc y) hx hy = omega arith

differ_assoc : (x y z : ℕ) → x < 2 → y < 2 → z < 2 → differ (differ x y) z ≡ differ x (differ y z)
differ_assoc zero y z hx hy hz = refl
differ_assoc (suc zero) zero z hx hy hz = refl
differ_assoc (suc zero) (suc zero) zero hx hy hz = refl
differ_assoc (suc zero) (suc zero) (suc zero) hx hy hz = refl
differ_assoc (suc zero) (suc zero) (suc (suc z)) hx hy hz = omega arith
differ_assoc (suc zero) (suc (suc y)) z hx hy hz = omega arith
differ_assoc (suc (suc x)) y z hx hy hz = omega arith

module _ (a b : ℕ) where
  bits_lt : differ (a % 2) (b % 2) < 2
  bits_lt = differ_lt (a % 2) (b % 2) (omega arith) (omega arith)

  xor_half : bit_xor a b / 2 ≡ bit_xor (a / 2) (b / 2)
  xor_half = xor_shr a b 1

  pub xor_odd : bit_xor a b % 2 ≡ differ (a % 2) (b % 2)
  xor_odd = ap (λ (x : ℕ). x % 2) (xor_step a b) ∙ step_odd (bit_xor (a / 2) (b / 2)) (differ (a % 2) (b % 2)) bits_lt

  pub xor_double : bit_xor (a * 2) (b * 2) ≡ bit_xor a b * 2
  xor_double = simp add-zero at (xor_block 1 a b 0 0 (omega arith) (omega arith))

pub xor_assoc : (a b c : ℕ) → bit_xor (bit_xor a b) c ≡ bit_xor a (bit_xor b c)
xor_assoc a = bin_ind (λ (a : ℕ). (b c : ℕ) → bit_xor (bit_xor a b) c ≡ bit_xor a (bit_xor b c)) base step a
  where
    base : (b c : ℕ) → bit_xor (bit_xor zero b) c ≡ bit_xor zero (bit_xor b c)
    base b c = ap (λ (x : ℕ). bit_xor x c) (xor_zero_l b) ∙ sym (xor_zero_l (bit_xor b c))

    step : (n : ℕ) → ((b c : ℕ) → bit_xor (bit_xor (n / 2) b) c ≡ bit_xor (n / 2) (bit_xor b c)) → (b c : ℕ) → bit_xor (bit_xor n b) c ≡ bit_xor n (bit_xor b c)
    step n ih b c =
        xor_step (bit_xor n b) c
        ∙ ap₂ (λ (x y : ℕ). x * 2 + y)
        (ap (λ (x : ℕ). bit_xor x (c / 2)) (xor_half n b) ∙ ih (b / 2) (c / 2) ∙ ap (λ (x : ℕ). bit_xor (n / 2) x) (sym (xor_half b c)))
        (ap (λ (x : ℕ). differ x (c % 2)) (xor_odd n b)
        ∙ differ_assoc (n % 2) (b % 2) (c % 2) (omega arith) (omega arith) (omega arith)
        ∙ ap (λ (x : ℕ). differ (n % 2) x) (sym (xor_odd b c)))
        ∙ sym (xor_step n (bit_xor b c))

-- what is added last may be added first
pub xor_swap : (a b c : ℕ) → bit_xor (bit_xor a b) c ≡ bit_xor (bit_xor a c) b
xor_swap a b c = xor_assoc a b c ∙ ap (λ (x : ℕ). bit_xor a x) (xor_comm b c) ∙ sym (xor_assoc a c b)

-- adding twice is adding not at all
xor_twice : (a b : ℕ) → bit_xor a (bit_xor a b) ≡ b
xor_twice a b = sym (xor_assoc a a b) ∙ ap (λ (x : ℕ). bit_xor x b) (xor_self a) ∙ xor_zero_l b

-- so an operand can be taken away
pub xor_cancel : (a b c : ℕ) → bit_xor a b ≡ bit_xor a c → b ≡ c
xor_cancel a b c e = sym (xor_twice a b) ∙ ap (λ (x : ℕ). bit_xor a x) e ∙ xor_twice a c
