-- The table's step is eight bits: a bit of the data may be added to the check before it is moved up, and what stays below the top only
-- moves up.
use mathlib.Core.Bool.{Bool, true, false, cond}
use mathlib.Core.List.{List, [], ◌∷◌}
use mathlib.Core.Path.{◌≡◌, refl, sym, ap, ◌∙◌}
use Prim.Native.Nat.{ℕ, zero, suc, ◌+◌, ◌*◌, ◌/◌, ◌%◌, ◌<◌, ◌≤◌}
use native.Mathlib.Nat.{add-zero}
use native.Mathlib.Numerals.{add-one}
use native.Mathlib.Omega.{arith}
use lib.Bits.{bit_xor, xor_zero_l, xor_zero_r, xor_comm, xor_lt, xor_shr, xor_mod}
use lib.Dec.{eqb}
use lib.ListN.{length, get_or, take, drop}
use lib.Seq.{drop-cons, drop-drop, get_or-take, get_or-drop}
use Rattle.std.proofs.Common.{Some, None}
use Rattle.std.specs.List.{slice_get}
use Rattle.std.specs.Simd.{first_chunks}
use Rattle.crc.specs.Crc.{polynomial, bit_fed, byte_fed, all_fed}
use Rattle.crc.proofs.Xor.{xor_swap, xor_double}

-- two bits differ in nothing exactly when they are equal
bits_eq : (t b : ℕ) → t < 2 → b < 2 → eqb (bit_xor t b) 0 ≡ eqb t b
bits_eq zero zero ht hb = refl
bits_eq zero (suc zero) ht hb = refl
bits_eq zero (suc (suc b)) ht hb = absurd (omega arith)
bits_eq (suc zero) zero ht hb = refl
bits_eq (suc zero) (suc zero) ht hb = refl
bits_eq (suc zero) (suc (suc b)) ht hb = absurd (omega arith)
bits_eq (suc (suc t)) b ht hb = absurd (omega arith)

-- 16 bits of data are added to the check: their highest bit is fed, the others move up
pub fed_added : (c d : ℕ) → c < 65536 → d < 65536 → bit_fed (bit_xor c d) 0 ≡ bit_xor (bit_fed c (d / 32768)) (d % 32768 * 2)
unfolding bit_fed
fed_added c d hc hd =
    rw (xor_shr c d 15, xor_mod c d 15, bits_eq (c / 32768) (d / 32768) (omega arith) (omega arith))
    (go (eqb (c / 32768) (d / 32768)))
  where
    go : (t : Bool) →
        cond t (bit_xor (c % 32768) (d % 32768) * 2) (bit_xor (bit_xor (c % 32768) (d % 32768) * 2) polynomial)
        ≡ bit_xor (cond t (c % 32768 * 2) (bit_xor (c % 32768 * 2) polynomial)) (d % 32768 * 2)
    go true = sym (xor_double (c % 32768) (d % 32768))
    go false =
        ap (λ (x : ℕ). bit_xor x polynomial) (sym (xor_double (c % 32768) (d % 32768)))
        ∙ xor_swap (c % 32768 * 2) (d % 32768 * 2) polynomial

-- a check stays below 65,536
pub bit_lt : (c b : ℕ) → bit_fed c b < 65536
unfolding bit_fed
bit_lt c b = go (eqb (c / 32768) b)
  where
    go : (t : Bool) → cond t (c % 32768 * 2) (bit_xor (c % 32768 * 2) polynomial) < 65536
    go true = omega arith
    go false = xor_lt 16 (c % 32768 * 2) polynomial (omega arith) (omega arith)

pub byte_lt : (c n : ℕ) → byte_fed c n < 65536
unfolding byte_fed
byte_lt c n = bit_lt _ (n % 2)

-- one bit: b goes in, and e is what is left of the data d
bit_step : (c d b e : ℕ) → c < 65536 → d < 65536 → d / 32768 ≡ b → d % 32768 * 2 ≡ e → bit_fed (bit_xor c d) 0 ≡ bit_xor (bit_fed c b) e
bit_step c d b e hc hd p q = rw (← p, ← q) (fed_added c d hc hd)

-- 16 bits of data are added to the check: their upper byte is fed, the lower one moves up
pub word_added : (c d : ℕ) → c < 65536 → d < 65536 → byte_fed (bit_xor c d) 0 ≡ bit_xor (byte_fed c (d / 256)) (d % 256 * 256)
unfolding byte_fed
word_added c d hc hd =
    let n = d / 256 in
    let c₁ = bit_fed c (n / 128 % 2) in
    let c₂ = bit_fed c₁ (n / 64 % 2) in
    let c₃ = bit_fed c₂ (n / 32 % 2) in
    let c₄ = bit_fed c₃ (n / 16 % 2) in
    let c₅ = bit_fed c₄ (n / 8 % 2) in
    let c₆ = bit_fed c₅ (n / 4 % 2) in
    let c₇ = bit_fed c₆ (n / 2 % 2) in
    rw (
      bit_step c d (d / 256 / 128 % 2) (d % 32768 * 2) hc hd (omega arith) refl,
      bit_step c₁ (d % 32768 * 2) (d / 256 / 64 % 2) (d % 16384 * 4) (bit_lt c _) (omega arith) (omega arith) (omega arith),
      bit_step c₂ (d % 16384 * 4) (d / 256 / 32 % 2) (d % 8192 * 8) (bit_lt c₁ _) (omega arith) (omega arith) (omega arith),
      bit_step c₃ (d % 8192 * 8) (d / 256 / 16 % 2) (d % 4096 * 16) (bit_lt c₂ _) (omega arith) (omega arith) (omega arith),
      bit_step c₄ (d % 4096 * 16) (d / 256 / 8 % 2) (d % 2048 * 32) (bit_lt c₃ _) (omega arith) (omega arith) (omega arith),
      bit_step c₅ (d % 2048 * 32) (d / 256 / 4 % 2) (d % 1024 * 64) (bit_lt c₄ _) (omega arith) (omega arith) (omega arith),
      bit_step c₆ (d % 1024 * 64) (d / 256 / 2 % 2) (d % 512 * 128) (bit_lt c₅ _) (omega arith) (omega arith) (omega arith),
      bit_step c₇ (d % 512 * 128) (d / 256 % 2) (d % 256 * 256) (bit_lt c₆ _) (omega arith) (omega arith) (omega arith),
    )

-- a byte of data may be added to the upper byte of the check at once
pub data_added : (c n : ℕ) → c < 65536 → n < 256 → byte_fed (bit_xor c (256 * n)) 0 ≡ byte_fed c n
data_added c n hc hn =
    let upper : 256 * n / 256 ≡ n = omega arith in
    let lower : 256 * n % 256 * 256 ≡ 0 = omega arith in
    word_added c (256 * n) hc (omega arith) ∙ rw (upper, lower) (xor_zero_r (byte_fed c n))

-- and two bytes to the whole of it
pub both_added : (c m n : ℕ) → c < 65536 → m < 256 → n < 256 → byte_fed (byte_fed (bit_xor c (256 * m + n)) 0) 0 ≡ byte_fed (byte_fed c m) n
both_added c m n hc hm hn =
    let upper : (256 * m + n) / 256 ≡ m = omega arith in
    let lower : (256 * m + n) % 256 * 256 ≡ 256 * n = omega arith in
    ap (λ (x : ℕ). byte_fed x 0) (word_added c (256 * m + n) hc (omega arith) ∙ rw (upper, lower) refl)
    ∙ data_added (byte_fed c m) n (byte_lt c m) hn

-- eight bits go out by the entry for them
pub by_entry : (c : ℕ) → c < 65536 → bit_xor (c % 256 * 256) (byte_fed 0 (c / 256)) ≡ byte_fed c 0
by_entry c hc =
    xor_comm (c % 256 * 256) (byte_fed 0 (c / 256))
    ∙ sym (word_added 0 c (omega arith) hc)
    ∙ ap (λ (x : ℕ). byte_fed x 0) (xor_zero_l c)

-- ---- a stretch of bytes, at its place i

-- one byte more
one_on : (s : List ℕ) (c i : ℕ) → i < length s → all_fed (byte_fed c (get_or s i 0)) (drop (i + 1) s) ≡ all_fed c (drop i s)
unfolding all_fed
one_on s c i h = rw (drop-cons s i 0 h, add-one)

-- two bytes more
two_on : (s : List ℕ) (c i : ℕ) → i + 1 < length s → all_fed (byte_fed (byte_fed c (get_or s i 0)) (get_or s (i + 1) 0)) (drop (i + 2) s) ≡ all_fed c (drop i s)
two_on s c i h =
    let e : i + 2 ≡ i + 1 + 1 = omega arith in
    rw e (one_on s (byte_fed c (get_or s i 0)) (i + 1) h ∙ one_on s c i (omega arith))

-- ---- a stretch of bytes, cut into pairs

-- pair i of them are the bytes at 2 i and behind it
pair_at : (k i : ℕ) (s : List ℕ) → i < k → get_or (first_chunks 2 k s) i [] ≡ take 2 (drop (2 * i) s)
pair_at zero i s h = absurd (omega arith)
pair_at (suc k) zero s h = refl
pair_at (suc k) (suc i) s h =
    let e : 2 * suc i ≡ 2 + 2 * i = omega arith in
    rw e (pair_at k i (drop 2 s) (omega arith) ∙ ap (take 2) (drop-drop (2 * i) 2 s))

-- one pair more
pub pair_on :
    (s : List ℕ) (k c i : ℕ) → i < k → 2 * k ≤ length s →
    all_fed (byte_fed (byte_fed c (get_or (get_or (first_chunks 2 k s) i []) 0 0)) (get_or (get_or (first_chunks 2 k s) i []) 1 0)) (drop (2 * (i + 1)) s)
    ≡ all_fed c (drop (2 * i) s)
pair_on s k c i h w =
    let e : 2 * (i + 1) ≡ 2 * i + 2 = omega arith in
    rw (e, pair_at k i s h, get_or-take 2 (drop (2 * i) s) 0 0 (omega arith), get_or-take 2 (drop (2 * i) s) 1 0 (omega arith), get_or-drop (2 * i) s 0 0, get_or-drop (2 * i) s 1 0, add-zero)
    (two_on s c (2 * i) (omega arith))

-- behind the pairs there is one byte
pub one_left : (l : List ℕ) (c b : ℕ) → length l < 2 → Some b ≡ slice_get l 0 → byte_fed c b ≡ all_fed c l
unfolding all_fed
one_left [] c b h e = absurd (cc)
one_left (x ∷ []) c b h e = let q : b ≡ x = cc in rw q refl
one_left (x ∷ y ∷ l) c b h e = absurd (omega arith)

-- or none
pub none_left : (l : List ℕ) (c : ℕ) → None ≡ slice_get l 0 → c ≡ all_fed c l
unfolding all_fed
none_left [] c e = refl
none_left (x ∷ l) c e = absurd (cc)
