-- What mending keeps: the length of the cache register. And the values that ECCS may have.
use mathlib.Core.List.{List}
use mathlib.Core.Path.{◌≡◌, refl, ◌∙◌}
use Prim.Native.Nat.{ℕ}
use lib.Dec.{eqb, leb}
use lib.ListN.{length, length-set}
use Rattle.part.specs.declared.Geometry.{Geometry}
use Rattle.part.proofs.Choice.{cond_keep}
use Rattle.stretches.proofs.Steps.{keep}
use Rattle.ecc.specs.Ecc.{sectors, data_at, data_long, spare_at, spare_long, marked, eccs, turned_back, sector_turned, mended_sector, mended}

turned_long : (marks : ℕ → ℕ) (i n : ℕ) (l : List ℕ) → length (turned_back marks i n l) ≡ length l
turned_long marks i n l = keep {B = ℕ} length _ (λ j x. length-set x j _) n i l

sector_long : (g : Geometry) (marks : ℕ → ℕ) (j : ℕ) (l : List ℕ) → length (mended_sector g marks j l) ≡ length l
unfolding sector_turned
sector_long g marks j l =
    cond_keep (λ (x : List ℕ). length x ≡ length l) (leb (marked g marks j) 8)
    (λ e. turned_long marks (spare_at g j) (spare_long g) (turned_back marks (data_at g j) (data_long g) l) ∙ turned_long marks (data_at g j) (data_long g) l)
    (λ e. refl)

pub mended_long : (g : Geometry) (marks : ℕ → ℕ) (l : List ℕ) → length (mended g marks l) ≡ length l
unfolding mended
mended_long g marks l = keep {B = ℕ} length (mended_sector g marks) (sector_long g marks) (sectors g) 0 l

-- whatever holds of the five values holds of ECCS
pub eccs_keep : (P : ℕ → Type 0) → P 0 → P 1 → P 2 → P 3 → P 5 → (n : ℕ) → P (eccs n)
unfolding eccs
eccs_keep P a b c d e n = cond_keep P (eqb n 0) (λ t. a) (λ t. cond_keep P (leb n 3) (λ t. b) (λ t. cond_keep P (leb n 6) (λ t. d) (λ t. cond_keep P (leb n 8) (λ t. e) (λ t. c))))
