-- The bytes of a number, low byte first.
use mathlib.Core.Path.{◌≡◌, refl, ap}
use Prim.Native.Nat.{ℕ, zero, suc, ◌/◌}
use native.Mathlib.Omega.{arith}
use lib.ListN.{length}
use Rattle.std.specs.Int.{w16, w32, to_le_bytes}
use Rattle.sheet.specs.Numbers.{low_first}

pub low_length : (k n : ℕ) → length (low_first k n) ≡ k
unfolding low_first
low_length zero n = refl
low_length (suc k) n = ap suc (low_length k (n / 256))

-- the library's four bytes
pub low_four : (n : ℕ) → to_le_bytes w32 n ≡ low_first 4 n
unfolding low_first
low_four n =
    let third : n / 65536 ≡ n / 256 / 256 = omega arith in
    let fourth : n / 16777216 ≡ n / 256 / 256 / 256 = omega arith in
    rw (third, fourth) refl

-- and two bytes
pub low_two : (n : ℕ) → to_le_bytes w16 n ≡ low_first 2 n
unfolding low_first
low_two n = refl
