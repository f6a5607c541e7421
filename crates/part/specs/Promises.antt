-- What is promised of the part's geometry, and of the blocks that are protected.
use Rattle.std.specs.Prelude.{false, true, ◌↔◌, ◌⊎◌, ◌≡◌, ℕ, ◌-◌, ◌^◌, ◌≤◌, ◌<◌, T}
use Rattle.part.specs.Part.{Sound, sound_part, of_stepping, fm25s005bi3, bench}
use Rattle.part.specs.Protection.{bp, cmp, protects, cmp_set, cmp_cleared}
use Rattle.part.specs.declared.Geometry.{Geometry}
use Rattle.part.specs.declared.Stepping.TheVariants.{First, Second}

-- the test of soundness says exactly what document 01's rule says
abbrev pub SoundPartExactly : Type 0
SoundPartExactly = (g : Geometry) → T (sound_part g) ↔ Sound g

-- both named parts are sound
abbrev pub NamedPartsSound : Type 0
NamedPartsSound = Sound fm25s005bi3 × Sound bench

-- ---- the complement bit; every statement speaks of every part, sound or not, and of every value of A0h

-- second stepping, b from 1 to 6: a block of the part is protected with CMP 1 if and only if it is not with CMP 0
abbrev pub ComplementExactly : Type 0
ComplementExactly =
    (g : Geometry) (a0 k : ℕ) → g.stepping ≡ Second → 1 ≤ bp a0 → bp a0 ≤ 6 → k < g.blocks →
    T (protects g (cmp_set a0) k) ↔ ¬ T (protects g (cmp_cleared a0) k)

-- b 0 or 7: CMP changes nothing
abbrev pub AtTheEndsNothing : Type 0
AtTheEndsNothing = (g : Geometry) (a0 k : ℕ) → (bp a0 ≡ 0) ⊎ (bp a0 ≡ 7) → protects g (cmp_set a0) k ≡ protects g (cmp_cleared a0) k

-- first stepping: bit 1 changes nothing
abbrev pub FirstKnowsNone : Type 0
FirstKnowsNone = (g : Geometry) (a0 k : ℕ) → g.stepping ≡ First → protects g (cmp_set a0) k ≡ protects g (cmp_cleared a0) k

-- a number at or above N is never protected
abbrev pub NoneBeyond : Type 0
NoneBeyond = (g : Geometry) (a0 k : ℕ) → g.blocks ≤ k → protects g a0 k ≡ false

-- second stepping, b from 1 to 6, N below 2^(7-b): CMP 1 protects every block
abbrev pub SmallAllProtected : Type 0
SmallAllProtected =
    (g : Geometry) (a0 k : ℕ) → g.stepping ≡ Second → 1 ≤ bp a0 → bp a0 ≤ 6 → g.blocks < 2 ^ (7 - bp a0) → k < g.blocks →
    protects g (cmp_set a0) k ≡ true

-- b 0 protects none, b 7 all, whatever else stands in A0h, on either stepping
abbrev pub NoneAndAll : Type 0
NoneAndAll =
    (g : Geometry) (a0 k : ℕ) → (bp a0 ≡ 0 → protects g a0 k ≡ false) × (bp a0 ≡ 7 → k < g.blocks → protects g a0 k ≡ true)

-- with CMP 0 both steppings protect the same blocks
abbrev pub WithoutCmpAlike : Type 0
WithoutCmpAlike =
    (g : Geometry) (a0 k : ℕ) → cmp a0 ≡ false → protects (of_stepping Second g) a0 k ≡ protects (of_stepping First g) a0 k
