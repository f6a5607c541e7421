-- Binary digits: of half a number and of an AND; and the counter command's mask, which clears exactly one.
use mathlib.Core.Bool.{Bool, true, false}
use mathlib.Core.Path.{◌≡◌, refl, sym, ap, ◌∙◌}
use Prim.Native.Nat.{ℕ, zero, suc, ◌+◌, ◌/◌, ◌%◌, ◌^◌, ◌≤◌, min}
use native.Mathlib.Nat.{div-div-eq-div-mul, pow-succ'}
use native.Mathlib.Omega.{arith}
use lib.Arith.{bin_ind}
use lib.Bits.{bit_and, and_shr}
use lib.Count.{ones, ones_in, ones_step}
use lib.Dec.{eqb}
use borrow.Author.Tests.{eqb-true, eqb-false, eq-eqb}
use Rattle.std.proofs.lemmas.Nat.Bits.{bit_at_lowest, bit_at_and, same_from_bits}
use Rattle.part.proofs.Bits.{and_odd}
use Rattle.card.specs.Card.{clears_one}
use Rattle.passing.specs.Promises.{OneBitLess, ClearsExactly}

-- ---- a digit

-- of half a number: the next of the number
pub half_digit : (n k : ℕ) → n / 2 / 2 ^ k ≡ n / 2 ^ suc k
half_digit n k = div-div-eq-div-mul n 2 (2 ^ k) ∙ ap (λ (x : ℕ). n / x) (sym (pow-succ' 2 k))

-- the half of an AND
and_half : (a b : ℕ) → bit_and a b / 2 ≡ bit_and (a / 2) (b / 2)
and_half a b = and_shr a b 1

-- an AND has no digit that the number has not
pub and_digit : (a b k : ℕ) → bit_and a b / 2 ^ k % 2 ≤ a / 2 ^ k % 2
and_digit a b k = omega (arith, bit_at_and a b k)

-- ---- one digit fewer

-- there is one more to count
less_ones : (k old new : ℕ) → old / 2 ^ k % 2 ≡ 1 → new / 2 ^ k % 2 ≡ 0 → ((j : ℕ) → ¬ (j ≡ k) → new / 2 ^ j % 2 ≡ old / 2 ^ j % 2) → ones old ≡ ones new + 1
less_ones zero old new w i o =
    let e : old / 2 ≡ new / 2 = same_from_bits (old / 2) (new / 2) (λ j. rw (half_digit old j, half_digit new j) (sym (o (suc j) (λ z. omega arith)))) in
    let c : ones (old / 2) ≡ ones (new / 2) = ap ones e in
    omega (arith, ones_step old, ones_step new, bit_at_lowest old, bit_at_lowest new)
less_ones (suc k) old new w i o =
    let c : ones (old / 2) ≡ ones (new / 2) + 1 =
    less_ones k (old / 2) (new / 2) (rw (half_digit old k) w) (rw (half_digit new k) i) (λ j f. rw (half_digit old j, half_digit new j) (o (suc j) (λ z. f (omega arith)))) in
    omega (arith, ones_step old, ones_step new, o 0 (λ z. omega arith), bit_at_lowest old, bit_at_lowest new)

-- an AND has no more digits set than the number
and_ones : (a b : ℕ) → ones (bit_and a b) ≤ ones a
unfolding ones ones_in
and_ones a = bin_ind (λ (a : ℕ). (b : ℕ) → ones (bit_and a b) ≤ ones a) (λ b. omega arith) more a
  where
    more : (a : ℕ) → ((b : ℕ) → ones (bit_and (a / 2) b) ≤ ones (a / 2)) → (b : ℕ) → ones (bit_and a b) ≤ ones a
    more a ih b = omega (arith, ones_step a, ones_step (bit_and a b), ap ones (and_half a b), and_odd a b, ih (b / 2))

-- and as many only where it is the number
and_same : (a b : ℕ) → ones (bit_and a b) ≡ ones a → bit_and a b ≡ a
and_same a = bin_ind (λ (a : ℕ). (b : ℕ) → ones (bit_and a b) ≡ ones a → bit_and a b ≡ a) (λ b e. refl) more a
  where
    more : (a : ℕ) → ((b : ℕ) → ones (bit_and (a / 2) b) ≡ ones (a / 2) → bit_and (a / 2) b ≡ a / 2) → (b : ℕ) → ones (bit_and a b) ≡ ones a → bit_and a b ≡ a
    more a ih b e =
        let s : ones (bit_and a b / 2) ≡ ones (bit_and (a / 2) (b / 2)) = ap ones (and_half a b) in
        let l : ones (bit_and (a / 2) (b / 2)) ≤ ones (a / 2) = and_ones (a / 2) (b / 2) in
        let h : ones (bit_and (a / 2) (b / 2)) ≡ ones (a / 2) = omega (arith, ones_step a, ones_step (bit_and a b), and_odd a b) in
        omega (arith, ones_step a, ones_step (bit_and a b), and_odd a b, and_half a b, ih (b / 2) h)

-- a digit above the lowest, of an AND
and_next : (a b k : ℕ) → bit_and a b / 2 ^ suc k % 2 ≡ bit_and (a / 2) (b / 2) / 2 ^ k % 2
and_next a b k = ap (λ (x : ℕ). x % 2) (sym (half_digit (bit_and a b) k)) ∙ ap (λ (x : ℕ). x / 2 ^ k % 2) (and_half a b)

-- where an AND has one digit fewer: the lowest is the one
lost_low : (old mask : ℕ) → ¬ (min (old % 2) (mask % 2) ≡ old % 2) → bit_and (old / 2) (mask / 2) ≡ old / 2 → OneBitLess old (bit_and old mask)
lost_low old mask f e =
    record {
      bit = 0;
      was = omega (arith, bit_at_lowest old);
      is = omega (arith, bit_at_lowest (bit_and old mask), and_odd old mask);
      others = others;
    }
  where
    others : (k : ℕ) → ¬ (k ≡ 0) → bit_and old mask / 2 ^ k % 2 ≡ old / 2 ^ k % 2
    others zero g = absurd (g refl)
    others (suc k) g = and_next old mask k ∙ ap (λ (x : ℕ). x / 2 ^ k % 2) e ∙ ap (λ (x : ℕ). x % 2) (half_digit old k)

-- or one above it
lost_above : (old mask : ℕ) → min (old % 2) (mask % 2) ≡ old % 2 → OneBitLess (old / 2) (bit_and (old / 2) (mask / 2)) → OneBitLess old (bit_and old mask)
lost_above old mask e x =
    record {
      bit = suc x.bit;
      was = ap (λ (y : ℕ). y % 2) (sym (half_digit old x.bit)) ∙ x.was;
      is = and_next old mask x.bit ∙ x.is;
      others = others;
    }
  where
    others : (k : ℕ) → ¬ (k ≡ suc x.bit) → bit_and old mask / 2 ^ k % 2 ≡ old / 2 ^ k % 2
    others zero g = omega (arith, bit_at_lowest (bit_and old mask), bit_at_lowest old, and_odd old mask)
    others (suc k) g = and_next old mask k ∙ x.others k (λ z. g (ap suc z)) ∙ ap (λ (x : ℕ). x % 2) (half_digit old k)

-- so wherever it has one fewer to count, it has lost one
ones_less : (old mask : ℕ) → ones old ≡ ones (bit_and old mask) + 1 → OneBitLess old (bit_and old mask)
unfolding ones ones_in
ones_less old = bin_ind (λ (old : ℕ). (mask : ℕ) → ones old ≡ ones (bit_and old mask) + 1 → OneBitLess old (bit_and old mask)) (λ mask e. absurd (omega arith)) more old
  where
    more : (old : ℕ) → ((mask : ℕ) → ones (old / 2) ≡ ones (bit_and (old / 2) mask) + 1 → OneBitLess (old / 2) (bit_and (old / 2) mask)) →
        (mask : ℕ) → ones old ≡ ones (bit_and old mask) + 1 → OneBitLess old (bit_and old mask)
    more old ih mask e = go (eqb (min (old % 2) (mask % 2)) (old % 2)) refl
      where
        s : ones (bit_and old mask / 2) ≡ ones (bit_and (old / 2) (mask / 2))
        s = ap ones (and_half old mask)

        go : (t : Bool) → eqb (min (old % 2) (mask % 2)) (old % 2) ≡ t → OneBitLess old (bit_and old mask)
        go true t =
            let q : min (old % 2) (mask % 2) ≡ old % 2 = eqb-true (min (old % 2) (mask % 2)) (old % 2) t in
            lost_above old mask q (ih (mask / 2) (omega (arith, ones_step old, ones_step (bit_and old mask), and_odd old mask, s)))
        go false t =
            let q : ¬ (min (old % 2) (mask % 2) ≡ old % 2) = eqb-false (min (old % 2) (mask % 2)) (old % 2) t in
            lost_low old mask q (and_same (old / 2) (mask / 2) (omega (arith, ones_step old, ones_step (bit_and old mask), and_odd old mask, s)))

-- ---- a counter command's mask clears exactly one bit

pub clears_fewer : (old mask : ℕ) → clears_one old mask ≡ true → ones old ≡ ones (bit_and old mask) + 1
unfolding clears_one
clears_fewer old mask t = eqb-true (ones old) (ones (bit_and old mask) + 1) t

pub clears_exactly : ClearsExactly
unfolding clears_one
clears_exactly old mask = (
  λ t. ones_less old mask (clears_fewer old mask t),
  λ x. eq-eqb (ones old) (ones (bit_and old mask) + 1) (less_ones x.bit old (bit_and old mask) x.was x.is x.others),
)
