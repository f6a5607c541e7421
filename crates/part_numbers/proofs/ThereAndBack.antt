-- A part and its numbers go there and back; and a stepping above 1 stands for a part that is not sound.
use Rattle.std.specs.Prelude.{Some, None}
use mathlib.Core.Bool.{Bool, true, false, cond}
use mathlib.Core.Path.{◌≡◌, refl}
use Prim.Native.Nat.{ℕ, zero, suc, ◌≤◌}
use native.Mathlib.Nat.{not-suc-le-zero, le_of_suc-le-suc}
use native.Mathlib.Omega.{arith}
use lib.Dec.{eqb}
use borrow.Author.Tests.{eqb-true}
use Rattle.part.specs.Part.{sound_part, of_stepping}
use Rattle.part.specs.declared.Stepping.{Stepping}
use Rattle.part.specs.declared.Stepping.TheVariants.{First, Second}
use Rattle.part_numbers.specs.Numbers.{part_as, part_of, face_part}
use Rattle.part_numbers.specs.Promises.{PartBack, FacePartBack, NoSuchStepping}
use Rattle.part_numbers.specs.declared.CGeometry.{CGeometry}

pub part_back : PartBack
part_back g = go g.stepping
  where
    go : (st : Stepping) → part_of (face_part (of_stepping st g)) ≡ of_stepping st g
    go First = refl
    go Second = refl

pub face_part_back : FacePartBack
face_part_back c h = go c.stepping h
  where
    numbered : ℕ → CGeometry
    numbered k = record { main = c.main; spare = c.spare; pages = c.pages; blocks = c.blocks; id0 = c.id0; id1 = c.id1; stepping = k }

    go : (k : ℕ) → k ≤ 1 → face_part (part_of (numbered k)) ≡ numbered k
    go zero i = refl
    go (suc zero) i = refl
    go (suc (suc k)) i = absurd (not-suc-le-zero (le_of_suc-le-suc i))

pub no_such_stepping : NoSuchStepping
unfolding sound_part
no_such_stepping c h = go (eqb c.stepping 0) refl (eqb c.stepping 1) refl
  where
    go : (a : Bool) → eqb c.stepping 0 ≡ a → (b : Bool) → eqb c.stepping 1 ≡ b → sound_part (part_as c (cond a (Some First) (cond b (Some Second) None))) ≡ false
    go true e b f = absurd (omega (arith, h, eqb-true c.stepping 0 e))
    go false e true f = absurd (omega (arith, h, eqb-true c.stepping 1 f))
    go false e false f = refl
