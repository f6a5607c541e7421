-- What the fate of a request tells: a program is asked all that an erase is asked, and what begins has its row in the array.
use mathlib.Core.Bool.{Bool, true, false, cond, not}
use mathlib.Core.List.{List}
use mathlib.Core.Path.{◌≡◌, refl, sym, subst, ap, ◌∙◌}
use Prim.Native.Nat.{ℕ, ◌<◌}
use lib.Dec.{T, leb}
use borrow.Author.Tests.{ltb-true, leb-false}
use Rattle.part.specs.Part.{rows, block}
use Rattle.part.specs.Protection.{protects}
use Rattle.part.specs.declared.Geometry.{Geometry}
use Rattle.part.specs.declared.Row.{Row}
use Rattle.array.specs.Jobs.{inside}
use Rattle.std.specs.Prelude.{Ok, Err}
use Rattle.requests.specs.declared.Bar.TheVariants.{ByRow, ByProtection, ByCount}
use Rattle.requests.specs.Requests.{Fate, begins?, barred, used_of, program_fate, erase_fate}

module _ (g : Geometry) (a0 : ℕ) (r : Row) where
  -- asked further only where an erase would begin
  barred_on : (rest : Fate) → barred g a0 r rest ≡ cond (begins? (barred g a0 r (Ok tt))) rest (barred g a0 r (Ok tt))
  barred_on rest = go (inside g r) (protects g a0 (block g r))
    where
      go : (a b : Bool) → cond (not a) (Err ByRow) (cond b (Err ByProtection) rest) ≡ cond (begins? (cond (not a) (Err ByRow) (cond b (Err ByProtection) (Ok tt)))) rest (cond (not a) (Err ByRow) (cond b (Err ByProtection) (Ok tt)))
      go false b = refl
      go true true = refl
      go true false = refl

  pub program_fate_lem : (counts : List ℕ) → program_fate g a0 r counts ≡ cond (begins? (erase_fate g a0 r)) (cond (leb 4 (used_of r counts)) (Err ByCount) (Ok tt)) (erase_fate g a0 r)
  unfolding program_fate erase_fate
  program_fate_lem counts = barred_on (cond (leb 4 (used_of r counts)) (Err ByCount) (Ok tt))

  -- what begins has its row in the array
  pub erase_inside : begins? (erase_fate g a0 r) ≡ true → r.0 < rows g
  unfolding erase_fate
  erase_inside = go (inside g r) refl
    where
      go : (a : Bool) → inside g r ≡ a → begins? (cond (not a) (Err ByRow) (cond (protects g a0 (block g r)) (Err ByProtection) (Ok tt))) ≡ true → r.0 < rows g
      go true p e = ltb-true r.0 (rows g) p
      go false p e = absurd (subst T (sym e) tt)

  -- a program that begins: its row, and a count below 4
  pub program_begins : (counts : List ℕ) → begins? (program_fate g a0 r counts) ≡ true → (r.0 < rows g) × (used_of r counts < 4)
  program_begins counts e = go (begins? (erase_fate g a0 r)) (leb 4 (used_of r counts)) refl refl (subst (λ (f : Fate). begins? f ≡ true) (program_fate_lem counts) e)
    where
      go : (a b : Bool) → begins? (erase_fate g a0 r) ≡ a → leb 4 (used_of r counts) ≡ b → begins? (cond a (cond b (Err ByCount) (Ok tt)) (erase_fate g a0 r)) ≡ true → (r.0 < rows g) × (used_of r counts < 4)
      go true true p q e = absurd (subst T (sym e) tt)
      go true false p q e = (erase_inside p, leb-false 4 (used_of r counts) q)
      go false b p q e = absurd (subst T (sym (sym p ∙ e)) tt)

  -- a program that is not barred: its page's count is below 4
  pub program_room : (counts : List ℕ) (u : Unit {0}) → program_fate g a0 r counts ≡ Ok u → used_of r counts < 4
  program_room counts u e = (program_begins counts (ap begins? e)).1
