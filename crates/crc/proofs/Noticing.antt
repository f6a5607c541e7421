-- One changed byte changes the check: each step can be undone.
use mathlib.Core.Bool.{Bool, true, false, cond}
use mathlib.Core.List.{List, [], ◌∷◌}
use mathlib.Core.Path.{◌≡◌, refl, sym, ◌∙◌}
use Prim.Native.Nat.{ℕ, zero, suc, ◌+◌, ◌*◌, ◌/◌, ◌%◌, ◌<◌}
use native.Mathlib.Nat.{le_of_suc-le-suc, not-suc-le-zero}
use native.Mathlib.Omega.{arith}
use lib.Bits.{bit_xor, xor_lt, xor_comm}
use lib.Dec.{eqb}
use lib.ListN.{length, get_or, set}
use borrow.Author.Tests.{eqb-true, eqb-false}
use Rattle.crc.specs.Crc.{polynomial, start, bit_fed, byte_fed, all_fed}
use Rattle.crc.specs.Promises.{KnownAnswer, Bytes, SixteenBits, Noticed}
use Rattle.crc.proofs.Xor.{xor_odd, xor_cancel}
use Rattle.crc.proofs.Linear.{bit_lt, byte_lt, data_added}

pub known_answer : KnownAnswer
unfolding all_fed byte_fed bit_fed
known_answer = refl

-- the polynomial makes an even number odd
added_odd : (x : ℕ) → bit_xor (x * 2) polynomial % 2 ≡ 1
added_odd x = let even : x * 2 % 2 ≡ 0 = omega arith in xor_odd (x * 2) polynomial ∙ rw even refl

-- a bit that is not b is the other one
other_bit : (t b : ℕ) → t < 2 → b < 2 → (t ≡ b → ⊥) → t + b ≡ 1
other_bit zero zero ht hb ne = absurd (ne refl)
other_bit zero (suc b) ht hb ne = omega arith
other_bit (suc zero) zero ht hb ne = refl
other_bit (suc zero) (suc zero) ht hb ne = absurd (ne refl)
other_bit (suc zero) (suc (suc b)) ht hb ne = absurd (omega arith)
other_bit (suc (suc t)) b ht hb ne = absurd (omega arith)

module _ (c d b : ℕ) (hc : c < 65536) (hd : d < 65536) (hb : b < 2) where
  -- two checks that one bit makes equal are equal
  pub bit_back : bit_fed c b ≡ bit_fed d b → c ≡ d
  unfolding bit_fed
  bit_back = go (eqb (c / 32768) b) (eqb (d / 32768) b) refl refl
    where
      go :
          (t u : Bool) → eqb (c / 32768) b ≡ t → eqb (d / 32768) b ≡ u →
          cond t (c % 32768 * 2) (bit_xor (c % 32768 * 2) polynomial) ≡ cond u (d % 32768 * 2) (bit_xor (d % 32768 * 2) polynomial) → c ≡ d
      go true true e f q = let p : c / 32768 ≡ b = eqb-true _ _ e in let r : d / 32768 ≡ b = eqb-true _ _ f in omega arith
      go true false e f q = absurd (omega (arith, q, added_odd (d % 32768)))
      go false true e f q = absurd (omega (arith, q, added_odd (c % 32768)))
      go false false e f q =
          let p : c / 32768 + b ≡ 1 = other_bit (c / 32768) b (omega arith) hb (eqb-false _ _ e) in
          let r : d / 32768 + b ≡ 1 = other_bit (d / 32768) b (omega arith) hb (eqb-false _ _ f) in
          let s : c % 32768 * 2 ≡ d % 32768 * 2 = xor_cancel polynomial (c % 32768 * 2) (d % 32768 * 2) (xor_comm polynomial (c % 32768 * 2) ∙ q ∙ xor_comm (d % 32768 * 2) polynomial) in
          omega arith

-- and so are two that one byte makes equal
pub byte_back : (c d n : ℕ) → c < 65536 → d < 65536 → byte_fed c n ≡ byte_fed d n → c ≡ d
unfolding byte_fed
byte_back c d n hc hd e =
    bit_back c d (n / 128 % 2) hc hd (omega arith)
    (bit_back _ _ (n / 64 % 2) (bit_lt c _) (bit_lt d _) (omega arith)
    (bit_back _ _ (n / 32 % 2) (bit_lt _ _) (bit_lt _ _) (omega arith)
    (bit_back _ _ (n / 16 % 2) (bit_lt _ _) (bit_lt _ _) (omega arith)
    (bit_back _ _ (n / 8 % 2) (bit_lt _ _) (bit_lt _ _) (omega arith)
    (bit_back _ _ (n / 4 % 2) (bit_lt _ _) (bit_lt _ _) (omega arith)
    (bit_back _ _ (n / 2 % 2) (bit_lt _ _) (bit_lt _ _) (omega arith)
    (bit_back _ _ (n % 2) (bit_lt _ _) (bit_lt _ _) (omega arith) e)))))))

-- two bytes that make one check are equal
pub data_back : (c m n : ℕ) → c < 65536 → m < 256 → n < 256 → byte_fed c m ≡ byte_fed c n → m ≡ n
data_back c m n hc hm hn e =
    let same : byte_fed (bit_xor c (256 * m)) 0 ≡ byte_fed (bit_xor c (256 * n)) 0 = data_added c m hc hm ∙ e ∙ sym (data_added c n hc hn) in
    let word : bit_xor c (256 * m) ≡ bit_xor c (256 * n) = byte_back _ _ 0 (xor_lt 16 c (256 * m) hc (omega arith)) (xor_lt 16 c (256 * n) hc (omega arith)) same in
    let shifted : 256 * m ≡ 256 * n = xor_cancel c (256 * m) (256 * n) word in
    omega arith

-- two checks that the same bytes make equal are equal
all_back : (s : List ℕ) (c d : ℕ) → c < 65536 → d < 65536 → all_fed c s ≡ all_fed d s → c ≡ d
unfolding all_fed
all_back [] c d hc hd e = e
all_back (n ∷ s) c d hc hd e = byte_back c d n hc hd (all_back s (byte_fed c n) (byte_fed d n) (byte_lt c n) (byte_lt d n) e)

all_lt : (s : List ℕ) (c : ℕ) → c < 65536 → all_fed c s < 65536
unfolding all_fed
all_lt [] c h = h
all_lt (n ∷ s) c h = all_lt s (byte_fed c n) (byte_lt c n)

pub sixteen_bits : SixteenBits
sixteen_bits s = all_lt s start (omega arith)

changed : (s : List ℕ) (c i b : ℕ) → c < 65536 → Bytes s → i < length s → b < 256 → all_fed c (set s i b) ≡ all_fed c s → b ≡ get_or s i 0
unfolding all_fed
changed [] c i b hc bs hi hb e = absurd (not-suc-le-zero hi)
changed (n ∷ s) c zero b hc bs hi hb e = data_back c b n hc hb (bs 0) (all_back s (byte_fed c b) (byte_fed c n) (byte_lt c b) (byte_lt c n) e)
changed (n ∷ s) c (suc i) b hc bs hi hb e = changed s (byte_fed c n) i b (byte_lt c n) (λ j. bs (suc j)) (le_of_suc-le-suc hi) hb e

pub noticed : Noticed
noticed s bs i b hi hb ne e = ne (changed s start i b (omega arith) bs hi hb e)
