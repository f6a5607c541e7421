-- Laws of the complement bit: what CMP turns round, and where it changes nothing.
use mathlib.Core.Bool.{Bool, true, false, not, cond, ◌&&◌}
use mathlib.Core.Logic.{◌↔◌, ◌⊎◌, inl, inr}
use mathlib.Core.Path.{◌≡◌, refl, sym, ap, ◌∙◌}
use Prim.Native.Nat.{ℕ, ◌-◌, ◌/◌, ◌%◌, ◌≤◌, ◌<◌}
use native.Mathlib.Nat.{div-eq_of_lt, div-one}
use native.Mathlib.Omega.{arith}
use lib.Dec.{T, leb, ltb, eqb, ltb→lt}
use borrow.Author.Tests.{le-leb, lt-leb, lt-ltb, le-ltb}
use Rattle.part.specs.Promises.{ComplementExactly, AtTheEndsNothing, FirstKnowsNone, NoneBeyond, SmallAllProtected, NoneAndAll, WithoutCmpAlike}
use Rattle.part.specs.Protection.{bp, inv, cmp, guarded, picked, complemented, protects, cmp_set, cmp_cleared}
use Rattle.part.specs.declared.Geometry.{Geometry}
use Rattle.part.specs.declared.Stepping.{Stepping}
use Rattle.part.specs.declared.Stepping.TheVariants.{First, Second}
use Rattle.part.proofs.Choice.{cond_keep, true_T}

-- CMP set or cleared leaves BP and INV
bp_set : (a0 : ℕ) → bp (cmp_set a0) ≡ bp a0
bp_set a0 = ap (λ (x : ℕ). x % 8) eighth
  where
    eighth : cmp_set a0 / 8 ≡ a0 / 8
    eighth = omega arith

bp_cleared : (a0 : ℕ) → bp (cmp_cleared a0) ≡ bp a0
bp_cleared a0 = ap (λ (x : ℕ). x % 8) eighth
  where
    eighth : cmp_cleared a0 / 8 ≡ a0 / 8
    eighth = omega arith

inv_set : (a0 : ℕ) → cmp_set a0 / 4 % 2 ≡ a0 / 4 % 2
inv_set a0 = omega arith

inv_cleared : (a0 : ℕ) → cmp_cleared a0 / 4 % 2 ≡ a0 / 4 % 2
inv_cleared a0 = omega arith

cmp_set_lem : (a0 : ℕ) → cmp_set a0 / 2 % 2 ≡ 1
cmp_set_lem a0 = omega arith

cmp_cleared_lem : (a0 : ℕ) → cmp_cleared a0 / 2 % 2 ≡ 0
cmp_cleared_lem a0 = omega arith

-- so the blocks that are picked are the same
picked_same : (g : Geometry) (a0 k : ℕ) → picked g (cmp_set a0) k ≡ picked g (cmp_cleared a0) k
picked_same g a0 k = rw (bp_set a0, bp_cleared a0, inv_set a0, inv_cleared a0)

-- without CMP nothing is turned round, on either stepping
cleared_plain : (st : Stepping) (a0 : ℕ) → complemented st (cmp_cleared a0) ≡ false
cleared_plain First a0 = refl
cleared_plain Second a0 = rw (cmp_cleared_lem a0)

-- with it, on the second stepping, exactly where b is from 1 to 6
set_turned : (a0 : ℕ) → 1 ≤ bp a0 → bp a0 ≤ 6 → complemented Second (cmp_set a0) ≡ true
set_turned a0 lo hi = rw (cmp_set_lem a0, bp_set a0, le-leb 1 (bp a0) lo, le-leb (bp a0) 6 hi)

-- where b is 0 or 7 nothing is, whatever CMP is
ends_plain : (st : Stepping) (a0 : ℕ) → (bp a0 ≡ 0) ⊎ (bp a0 ≡ 7) → complemented st a0 ≡ false
ends_plain First a0 h = refl
ends_plain Second a0 (inl e) = rw e (go (cmp a0))
  where
    go : (b : Bool) → (b && leb 1 0 && leb 0 6) ≡ false
    go true = refl
    go false = refl
ends_plain Second a0 (inr e) = rw e (go (cmp a0))
  where
    go : (b : Bool) → (b && leb 1 7 && leb 7 6) ≡ false
    go true = refl
    go false = refl

-- a block of the part, once it is known whether the rest is taken
protects_plain : (g : Geometry) (a0 k : ℕ) → complemented g.stepping a0 ≡ false → protects g a0 k ≡ (ltb k g.blocks && picked g a0 k)
unfolding protects
protects_plain g a0 k e = rw e

protects_turned : (g : Geometry) (a0 k : ℕ) → complemented g.stepping a0 ≡ true → protects g a0 k ≡ (ltb k g.blocks && not (picked g a0 k))
unfolding protects
protects_turned g a0 k e = rw e

-- a test turned round holds if and only if the test does not
not_exactly : (b : Bool) → T (not b) ↔ ¬ T b
not_exactly true = (λ t. absurd t, λ n. n tt)
not_exactly false = (λ t n. n, λ n. tt)

pub complement_exactly : ComplementExactly
complement_exactly g a0 k e lo hi h =
    rw (
      protects_turned g (cmp_set a0) k (rw e (set_turned a0 lo hi)),
      protects_plain g (cmp_cleared a0) k (cleared_plain g.stepping a0),
      lt-ltb k g.blocks h,
      picked_same g a0 k,
    )
    (not_exactly (picked g (cmp_cleared a0) k))

-- where neither value takes the rest, CMP changes nothing
both_plain : (g : Geometry) (a0 k : ℕ) → complemented g.stepping (cmp_set a0) ≡ false → protects g (cmp_set a0) k ≡ protects g (cmp_cleared a0) k
both_plain g a0 k e =
    protects_plain g (cmp_set a0) k e
    ∙ ap (λ (b : Bool). ltb k g.blocks && b) (picked_same g a0 k)
    ∙ sym (protects_plain g (cmp_cleared a0) k (cleared_plain g.stepping a0))

pub at_the_ends_nothing : AtTheEndsNothing
at_the_ends_nothing g a0 k h = both_plain g a0 k (ends_plain g.stepping (cmp_set a0) (rw (bp_set a0) h))

pub first_knows_none : FirstKnowsNone
first_knows_none g a0 k e = both_plain g a0 k (rw e)

pub none_beyond : NoneBeyond
unfolding protects
none_beyond g a0 k h = rw (le-ltb k g.blocks h)

-- of N below 2^(7-b) nothing is picked
picked_none : (g : Geometry) (a0 k : ℕ) → guarded g (bp a0) ≡ 0 → k < g.blocks → picked g a0 k ≡ false
picked_none g a0 k e h = rw e (go (inv a0))
  where
    go : (i : Bool) → cond i (ltb k 0) (leb (g.blocks - 0) k) ≡ false
    go true = le-ltb k 0 (omega arith)
    go false = lt-leb (g.blocks - 0) k (omega arith)

pub small_all_protected : SmallAllProtected
small_all_protected g a0 k e lo hi few h =
    rw (
      protects_turned g (cmp_set a0) k (rw e (set_turned a0 lo hi)),
      lt-ltb k g.blocks h,
      picked_none g (cmp_set a0) k (rw (bp_set a0) none) h,
    )
  where
    none : guarded g (bp a0) ≡ 0
    none = cond_keep (λ (q : ℕ). q ≡ 0) (eqb (bp a0) 0) (λ i. refl) (λ i. div-eq_of_lt few)

pub none_and_all : NoneAndAll
none_and_all g a0 k = (λ e. none e, λ e h. all e h)
  where
    none : bp a0 ≡ 0 → protects g a0 k ≡ false
    none e = protects_plain g a0 k (ends_plain g.stepping a0 (inl e)) ∙ below (ltb k g.blocks) (λ l. picked_none g a0 k (rw e) (ltb→lt k g.blocks (true_T _ l)))
      where
        below : (b : Bool) → (b ≡ true → picked g a0 k ≡ false) → (b && picked g a0 k) ≡ false
        below true f = f refl
        below false f = refl

    all : bp a0 ≡ 7 → k < g.blocks → protects g a0 k ≡ true
    all e h = rw (protects_plain g a0 k (ends_plain g.stepping a0 (inr e)), lt-ltb k g.blocks h, e, div-one g.blocks) (go (inv a0))
      where
        go : (i : Bool) → cond i (ltb k g.blocks) (leb (g.blocks - g.blocks) k) ≡ true
        go true = lt-ltb k g.blocks h
        go false = le-leb (g.blocks - g.blocks) k (omega arith)

pub without_cmp_alike : WithoutCmpAlike
unfolding protects
without_cmp_alike g a0 k e = rw e
