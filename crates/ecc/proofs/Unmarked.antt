-- A page without a marked bit: its sectors have none, and mending leaves it as it is.
use mathlib.Core.List.{List}
use mathlib.Core.Path.{◌≡◌, refl, ap, ap₂, ◌∙◌, fun_ext}
use Prim.Native.Nat.{ℕ, ◌+◌, max}
use native.Mathlib.Nat.{add-zero}
use native.Mathlib.Omega.{arith}
use lib.Bits.{xor_zero_r}
use lib.Count.{ones, ones_in}
use lib.Dec.{leb}
use lib.ListN.{length, get_or, set}
use lib.Seq.{set-get_or}
use Rattle.part.specs.declared.Geometry.{Geometry}
use Rattle.part.proofs.Choice.{cond_keep}
use Rattle.stretches.specs.Steps.{ones_from, sum_from}
use Rattle.stretches.proofs.Steps.{still}
use Rattle.stretches.proofs.Zeros.{none_set}
use Rattle.ecc.specs.Ecc.{sectors, data_at, data_long, spare_at, spare_long, marked, worst, eccs, turned_back, sector_turned, mended_sector, mended}

-- no mark at any column
abbrev pub unmarked : ℕ → ℕ
unmarked c = 0

none_counted : (n i : ℕ) → ones_from unmarked i n ≡ 0
unfolding ones ones_in
none_counted n i = still (λ j sum. sum + ones (unmarked j)) (λ j sum. add-zero sum) n i 0

none_turned : (n i : ℕ) (l : List ℕ) → turned_back unmarked i n l ≡ l
none_turned n i l = still _ (λ j x. ap (set x j) (xor_zero_r (get_or x j 0)) ∙ set-get_or x j 0) n i l

module _ (g : Geometry) where
  pub none_marked : (j : ℕ) → marked g unmarked j ≡ 0
  unfolding marked
  none_marked j = ap₂ (λ (a b : ℕ). a + b) (none_counted (data_long g) (data_at g j)) (none_counted (spare_long g) (spare_at g j))

  pub none_worst : worst g unmarked ≡ 0
  unfolding worst
  none_worst = still _ (λ j n. ap (max n) (none_marked j) ∙ max_none n) (sectors g) 0 0
    where
      max_none : (n : ℕ) → max n 0 ≡ n
      max_none n = omega arith

  pub none_mended : (l : List ℕ) → mended g unmarked l ≡ l
  unfolding mended sector_turned
  none_mended l = still _ one (sectors g) 0 l
    where
      one : (j : ℕ) (x : List ℕ) → mended_sector g unmarked j x ≡ x
      one j x =
          cond_keep (λ (y : List ℕ). y ≡ x) (leb (marked g unmarked j) 8)
          (λ e. none_turned (spare_long g) (spare_at g j) (turned_back unmarked (data_at g j) (data_long g) x) ∙ none_turned (data_long g) (data_at g j) x)
          (λ e. refl)

-- bytes whose sum is 0 mark nothing
pub zeros_unmarked : (marks : List ℕ) → sum_from (λ c. get_or marks c 0) 0 (length marks) ≡ 0 → (λ c. get_or marks c 0) ≡ unmarked
zeros_unmarked marks e = fun_ext (none_set marks e)

-- so the page is mended as it is, and ECCS is 000
pub zeros_mended : (g : Geometry) (marks : ℕ → ℕ) (cache : List ℕ) → marks ≡ unmarked → (0 ≡ eccs (worst g marks)) × (cache ≡ mended g marks cache)
unfolding eccs
zeros_mended g marks cache e = rw e (rw (none_worst g) refl, rw (none_mended g cache) refl)
