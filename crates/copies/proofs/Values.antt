-- The number in a few bytes: how large it is, and how it is read from its last byte on.
use mathlib.Core.Bool.{Bool, true, false}
use mathlib.Core.List.{List, [], ◌∷◌}
use mathlib.Core.Path.{◌≡◌, refl, ap}
use Prim.Native.Nat.{ℕ, zero, suc, ◌+◌, ◌-◌, ◌*◌, ◌^◌, ◌≤◌, ◌<◌}
use native.Mathlib.Nat.{min-le_left}
use native.Mathlib.Omega.{arith}
use lib.Dec.{ltb}
use lib.ListN.{length, take, drop, get_or, length-take, get_or-eq_default}
use lib.Seq.{drop-cons, drop-length, get_or-take, get_or-drop}
use borrow.Author.Tests.{ltb-true, ltb-false}
use Rattle.crc.specs.Promises.{Bytes}
use Rattle.sheet.specs.Numbers.{number_in, stretch}

-- no more is taken than is asked for
length_take_short : (k : ℕ) (l : List ℕ) → length (take k l) ≤ k
length_take_short k l = rw length-take (min-le_left k (length l))

-- k bytes are below 256^k
pub number_lt : (k : ℕ) (l : List ℕ) → length l ≤ k → Bytes l → number_in l < 256 ^ k
unfolding number_in
number_lt zero [] h bs = omega arith
number_lt zero (b ∷ l) h bs = absurd (omega arith)
number_lt (suc k) [] h bs = let p : 0 < 256 ^ k = number_lt k [] (omega arith) bs in omega arith
number_lt (suc k) (b ∷ l) h bs = let p : number_in l < 256 ^ k = number_lt k l (omega arith) (λ i. bs (suc i)) in omega (arith, bs 0)

-- 256^k for up to three bytes
pub three_bytes : (k : ℕ) → k ≤ 3 → 256 ^ k ≤ 16777216
three_bytes zero h = omega arith
three_bytes (suc zero) h = omega arith
three_bytes (suc (suc zero)) h = omega arith
three_bytes (suc (suc (suc zero))) h = omega arith
three_bytes (suc (suc (suc (suc k)))) h = absurd (omega arith)

-- the bytes from place i on are read
pub record Reading (s : List ℕ) (n i : ℕ) : Type 0 where
  pub within : i ≤ length s
  pub so_far : n ≡ number_in (drop i s)
  pub small : n < 256 ^ (length s - i)

-- and one more
pub one_read : {s : List ℕ} {n i : ℕ} → Reading s n i → 0 < i → get_or s (i - 1) 0 < 256 → Reading s (256 * n + get_or s (i - 1) 0) (i - 1)
unfolding number_in
one_read {s} {n} {i} r h b =
    let e : suc (i - 1) ≡ i = omega arith in
    let k : length s - (i - 1) ≡ suc (length s - i) = omega (arith, r.within) in
    let p : n < 256 ^ (length s - i) = r.small in
    let f : number_in (drop (i - 1) s) ≡ get_or s (i - 1) 0 + 256 * number_in (drop (suc (i - 1)) s) = ap number_in (drop-cons s (i - 1) 0 (omega (arith, r.within))) in
    let q : n ≡ number_in (drop (suc (i - 1)) s) = rw e r.so_far in
    record {
      within = omega (arith, r.within);
      so_far = omega (arith, f, q);
      small = rw k (omega (arith, b));
    }

pub none_read : (s : List ℕ) → Reading s 0 (length s)
unfolding number_in
none_read s =
    let e : drop (length s) s ≡ [] = drop-length s in
    let k : length s - length s ≡ 0 = omega arith in
    record { within = omega arith; so_far = rw e refl; small = rw k (omega arith) }

pub all_read : {s : List ℕ} {n i : ℕ} → Reading s n i → i ≤ 0 → n ≡ number_in s
all_read {s} {n} {i} r h = let e : i ≡ 0 = omega arith in rw e at r.so_far

-- ---- a stretch of bytes

pub stretch_bytes : (p : List ℕ) → Bytes p → (place size : ℕ) → Bytes (stretch place size p)
stretch_bytes p bs place size i = go (ltb i size) refl
  where
    go : (t : Bool) → ltb i size ≡ t → get_or (take size (drop place p)) i 0 < 256
    go true e = rw (get_or-take size (drop place p) i 0 (ltb-true _ _ e), get_or-drop place p i 0) (bs (place + i))
    go false e =
        let h : length (take size (drop place p)) ≤ i = omega (arith, length_take_short size (drop place p), ltb-false i size e) in
        rw (get_or-eq_default (take size (drop place p)) 0 {n = i} h) (omega arith)
