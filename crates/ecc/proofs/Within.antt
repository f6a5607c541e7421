-- Where the sectors of a page lie: within it.
use Rattle.std.specs.Prelude.{if◌then◌else◌}
use mathlib.Core.Bool.{Bool, true, false}
use mathlib.Core.Path.{◌≡◌, refl}
use Prim.Native.Nat.{ℕ, ◌+◌, ◌-◌, ◌*◌, ◌/◌, ◌%◌, ◌≤◌, ◌<◌}
use native.Mathlib.Omega.{arith}
use lib.Dec.{eqb}
use borrow.Author.Tests.{eqb-true}
use Rattle.part.specs.Part.{page, Sound}
use Rattle.part.specs.declared.Geometry.{Geometry}
use Rattle.part.proofs.Choice.{T_true, true_T, and_l, and_r}
use Rattle.ecc.specs.Ecc.{sectored, sectors, data_at, data_long, spare_at, spare_long}

-- what a page with sectors is
pub cut : (g : Geometry) → sectored g ≡ true → (g.main % 512 ≡ 0) × (g.spare ≡ g.main / 16)
cut g e =
    let a : Bool = eqb (g.main % 512) 0 in
    let b : Bool = eqb g.spare (g.main / 16) in
    (eqb-true _ _ (T_true a (and_l a b (true_T _ e))), eqb-true _ _ (T_true b (and_r a b (true_T _ e))))

module _ (g : Geometry) (j : ℕ) where
  data_in : (b : Bool) → sectored g ≡ b → j < (if b then g.main / 512 else 1) → (if b then 512 * j else 0) + (if b then 512 else page g) ≤ page g
  data_in true e h = omega (arith, cut g e)
  data_in false e h = omega arith

  spare_in : (b : Bool) → sectored g ≡ b → j < (if b then g.main / 512 else 1)
      → (if b then g.main + 32 * j else page g) + (if b then 16 else 0) ≤ page g
  spare_in true e h = omega (arith, cut g e)
  spare_in false e h = omega arith

  -- both stretches of sector j
  pub sector_in : j < sectors g → (data_at g j + data_long g ≤ page g) × (spare_at g j + spare_long g ≤ page g)
  sector_in h = (data_in (sectored g) refl h, spare_in (sectored g) refl h)

  -- in numbers that are not multiplied out: each ends where it should, on the page
  pub sector_ends : Sound g → j < sectors g
      → (data_at g j ≤ data_at g j + data_long g) × (data_at g j + data_long g ≤ page g) × (spare_at g j ≤ spare_at g j + spare_long g) × (spare_at g j + spare_long g ≤ page g) × (page g ≤ 4096)
  sector_ends s h = (omega arith, (sector_in h).0, omega arith, (sector_in h).1, s.small_page)

  few : (b : Bool) → sectored g ≡ b → page g ≤ 4096 → j < (if b then g.main / 512 else 1) → j ≤ 8
  few true e p h = omega arith
  few false e p h = omega arith

  -- and its number is small
  pub sector_few : Sound g → j < sectors g → j ≤ 8
  sector_few s h = few (sectored g) refl s.small_page h

-- a stretch from a place on has so many bytes
pub long : (a n : ℕ) → a + n - a ≡ n
long a n = omega arith
