-- The table's rule, proved at all of its entries by one test that antt computes, one entry after the other.
use mathlib.Core.Bool.{Bool, true, ◌&&◌}
use mathlib.Core.List.{List, [], ◌∷◌}
use mathlib.Core.Path.{◌≡◌, ◌∙◌, subst, sym}
use native.Mathlib.Nat.{add-zero, zero-add, add-suc, suc-add, le_of_suc-le-suc, not-suc-le-zero}
use Prim.Native.Nat.{ℕ, zero, suc, ◌+◌, ◌<◌}
use lib.Dec.{T, eqb, eqb→eq}
use lib.ListN.{length, get_or}
use Rattle.part.proofs.Choice.{and_l, and_r}
use Rattle.crc.specs.Crc.{byte_fed, RightTable}

-- a test of a place and the entry there passes at each entry of a list, its places counted from i
unfoldable pub every : (ℕ → ℕ → Bool) → ℕ → List ℕ → Bool
every f i [] = true
every f i (x ∷ xs) = f i x && every f (suc i) xs

module _ (f : ℕ → ℕ → Bool) where
  from : (xs : List ℕ) (i : ℕ) → T (every f i xs) → (k : ℕ) → k < length xs → T (f (i + k) (get_or xs k 0))
  unfolding every
  from [] i t k h = absurd (not-suc-le-zero h)
  from (x ∷ xs) i t zero h = subst (λ (m : ℕ). T (f m x)) (sym (add-zero i)) (and_l (f i x) (every f (suc i) xs) t)
  from (x ∷ xs) i t (suc k) h =
      subst (λ (m : ℕ). T (f m (get_or xs k 0))) (suc-add i k ∙ sym (add-suc i k))
      (from xs (suc i) (and_r (f i x) (every f (suc i) xs) t) k (le_of_suc-le-suc h))

  -- then it passes at the entry of any place
  pub at : (xs : List ℕ) → T (every f 0 xs) → (k : ℕ) → k < length xs → T (f k (get_or xs k 0))
  at xs t k h = subst (λ (m : ℕ). T (f m (get_or xs k 0))) (zero-add k) (from xs 0 t k h)

-- the entry of n is what the bits of n make of 0
unfoldable pub right : ℕ → ℕ → Bool
right n x = eqb x (byte_fed 0 n)

-- 256 entries that pass the test are a right table
pub right_table : (t : List ℕ) → T (every right 0 t) → length t ≡ 256 → RightTable t
unfolding right
right_table t p e = record { rule = λ n h. eqb→eq (get_or t n 0) (byte_fed 0 n) (at right t p n (rw e h)) }
