-- A bit of a byte made 0, as the code's mask does it.
use mathlib.Core.Path.{◌≡◌}
use Prim.Native.Nat.{ℕ, ◌+◌, ◌-◌, ◌*◌, ◌/◌, ◌%◌, ◌^◌, ◌<◌}
use native.Mathlib.Nat.{mod-eq_of_lt, one-mul}
use native.Mathlib.Omega.{arith}
use lib.Pow.{pow_mono}
use Rattle.std.specs.Int.Bits.{bit_and}
use Rattle.std.proofs.lemmas.Nat.{and_comm, and-not}
use Rattle.std.proofs.lemmas.Nat.Bits.{and_pow}

-- the mask of all bits but one takes that bit's weight away, where the bit is 1
pub cleared : (b k : ℕ) → b < 256 → k < 8 → bit_and b (255 - 1 * 2 ^ k % 256) ≡ b - b / 2 ^ k % 2 * 2 ^ k
cleared b k h i =
    let most : 2 ^ k < 256 = omega (arith, pow_mono {i = k} {j = 7} (omega arith)) in
    let weight : 1 * 2 ^ k % 256 ≡ 2 ^ k = rw (one-mul (2 ^ k)) (mod-eq_of_lt most) in
    let both : bit_and (255 - 2 ^ k) b + bit_and (2 ^ k) b ≡ b = and-not 8 (2 ^ k) b most h in
    rw (weight, and_comm b (255 - 2 ^ k)) (omega (arith, both, and_comm (2 ^ k) b, and_pow b k))
