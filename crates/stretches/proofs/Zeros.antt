-- What a loop has seen of bytes that may all be 0: a byte that is not 0 shows in what it ORs together, as it does in a sum.
use mathlib.Core.Bool.{Bool, true, false}
use mathlib.Core.List.{List}
use mathlib.Core.Path.{◌≡◌, refl, ap, ◌∙◌}
use Prim.Native.Nat.{ℕ, zero, suc, ◌+◌, ◌≤◌, ◌<◌}
use native.Mathlib.Nat.{add-zero, sub-zero}
use native.Mathlib.Omega.{arith}
use lib.Bits.{bit_or, or_zero_r, or_add_and, and_le_l}
use lib.Dec.{eqb, ltb}
use lib.ListN.{length, get_or, get_or-eq_default}
use borrow.Author.Tests.{eqb-true, eqb-false, ne_eqb, ltb-true, ltb-false}
use Rattle.stretches.specs.Steps.{steps, sum_from}
use Rattle.stretches.proofs.Loop.{Taking, taking, taken, took}

-- up to byte i: the sum so far, and that what was seen is 0 where it is
pub record Seen (bytes : List ℕ) (seen i : ℕ) : Type 0 where
  pub sum : ℕ
  pub along : Taking (λ j n. n + get_or bytes j 0) 0 (length bytes) 0 sum i
  pub same : eqb seen 0 ≡ eqb sum 0

pub seen_none : {bytes : List ℕ} → Seen bytes 0 0
seen_none {bytes} = record { sum = 0; along = taking (omega arith); same = refl }

more : (s n b : ℕ) → eqb s 0 ≡ eqb n 0 → eqb (bit_or s b) 0 ≡ eqb (n + b) 0
more s n zero e = rw (or_zero_r s, add-zero n) e
more s n (suc b) e = rw (ne_eqb (bit_or s (suc b)) 0 (λ z. omega (arith, or_add_and s (suc b), and_le_l s (suc b))), ne_eqb (n + suc b) 0 (λ z. omega arith)) refl

pub seen_more : {bytes : List ℕ} {seen i : ℕ} → Seen bytes seen i → i < length bytes → Seen bytes (bit_or seen (get_or bytes i 0)) (i + 1)
seen_more {bytes} {seen} {i} s h =
    record { sum = s.sum + get_or bytes i 0; along = taken s.along h refl; same = more seen s.sum (get_or bytes i 0) s.same }

pub seen_all : {bytes : List ℕ} {seen i : ℕ} → Seen bytes seen i → length bytes ≤ i → eqb seen 0 ≡ eqb (sum_from (λ j. get_or bytes j 0) 0 (length bytes)) 0
seen_all {bytes} s h = s.same ∙ rw (sub-zero (length bytes)) at (ap (λ (n : ℕ). eqb n 0) (took s.along h))

-- a sum that is 0 has only zeros
module _ (f : ℕ → ℕ) where
  grows : (n i s : ℕ) → s ≤ steps (λ j t. t + f j) i n s
  unfolding steps
  grows zero i s = omega arith
  grows (suc n) i s = omega (arith, grows n (suc i) (s + f i))

  each : (n i s k : ℕ) → steps (λ j t. t + f j) i n s ≡ 0 → i ≤ k → k < i + n → f k ≡ 0
  unfolding steps
  each zero i s k e h l = absurd (omega arith)
  each (suc n) i s k e h l = go (eqb k i) refl (λ p. each n (suc i) (s + f i) k e p (omega arith))
    where
      lt : (k i : ℕ) → i ≤ k → (k ≡ i → ⊥) → suc i ≤ k
      lt k i h q = omega (arith, q)

      go : (b : Bool) → eqb k i ≡ b → (suc i ≤ k → f k ≡ 0) → f k ≡ 0
      go true t r = rw (eqb-true k i t) (omega (arith, e, grows n (suc i) (s + f i)))
      go false t r = r (lt k i h (eqb-false k i t))

-- so that every byte of a list is, and what stands for those past its end too
pub none_set : (bytes : List ℕ) → sum_from (λ j. get_or bytes j 0) 0 (length bytes) ≡ 0 → (k : ℕ) → get_or bytes k 0 ≡ 0
none_set bytes e k = go (ltb k (length bytes)) refl
  where
    go : (b : Bool) → ltb k (length bytes) ≡ b → get_or bytes k 0 ≡ 0
    go true t = each (λ j. get_or bytes j 0) (length bytes) 0 0 k e (omega arith) (omega (arith, ltb-true k (length bytes) t))
    go false t = get_or-eq_default bytes 0 (ltb-false k (length bytes) t)
