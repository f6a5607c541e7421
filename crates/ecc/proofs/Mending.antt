-- The loop over the sectors: at sector j, going on mends and finds what going from the first sector does.
use mathlib.Core.List.{List}
use mathlib.Core.Path.{◌≡◌, refl, ◌∙◌}
use Prim.Native.Nat.{ℕ, ◌+◌, ◌≤◌, ◌<◌, max}
use native.Mathlib.Nat.{sub-zero}
use native.Mathlib.Omega.{arith}
use lib.ListN.{length}
use Rattle.part.specs.declared.Geometry.{Geometry}
use Rattle.stretches.proofs.Loop.{Taking, taking, taken, took}
use Rattle.ecc.specs.Ecc.{sectors, marked, worst, mended_sector, mended}

pub record Mending (g : Geometry) (marks : ℕ → ℕ) (cache₀ cache : List ℕ) (most j : ℕ) : Type 0 where
  pub long : length cache ≡ length cache₀
  pub mends : Taking (mended_sector g marks) 0 (sectors g) cache₀ cache j
  pub finds : Taking (λ i n. max n (marked g marks i)) 0 (sectors g) 0 most j

module _ {g : Geometry} {marks : ℕ → ℕ} {cache₀ : List ℕ} where
  pub mending : Mending g marks cache₀ cache₀ 0 0
  mending = record { long = refl; mends = taking (omega arith); finds = taking (omega arith) }

  pub mended_one : {cache next : List ℕ} {most j n : ℕ} → Mending g marks cache₀ cache most j → j < sectors g → length next ≡ length cache
      → next ≡ mended_sector g marks j cache → n ≡ max most (marked g marks j) → Mending g marks cache₀ next n (j + 1)
  mended_one m h l e f = record { long = l ∙ m.long; mends = taken m.mends h e; finds = taken m.finds h f }

  pub mended_all : {cache : List ℕ} {most j : ℕ} → Mending g marks cache₀ cache most j → sectors g ≤ j
      → (most ≡ worst g marks) × (cache ≡ mended g marks cache₀)
  unfolding worst mended
  mended_all m h = (rw (sub-zero (sectors g)) at (took m.finds h), rw (sub-zero (sectors g)) at (took m.mends h))
