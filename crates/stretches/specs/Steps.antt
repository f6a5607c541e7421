-- Steps along a stretch of bytes, one after another; and what is counted along it.
use Rattle.std.specs.Prelude.{ℕ, zero, suc, ◌+◌}
use Rattle.std.specs.Int.Count.{ones}

-- step i, step i + 1 and so on, n of them
unfoldable pub steps : {A : Type 0} → (ℕ → A → A) → ℕ → ℕ → A → A
steps f i zero x = x
steps f i (suc n) x = steps f (suc i) n (f i x)

-- the bits set in n bytes from byte i on (`ones` of a byte is how many of its binary digits are 1)
abbrev pub ones_from : (ℕ → ℕ) → ℕ → ℕ → ℕ
ones_from f i n = steps (λ j sum. sum + ones (f j)) i n 0

-- the sum of n bytes from byte i on: 0 exactly where each of them is
abbrev pub sum_from : (ℕ → ℕ) → ℕ → ℕ → ℕ
sum_from f i n = steps (λ j sum. sum + f j) i n 0
