-- A test that is exact, one that holds if and only if what it asks does: what each of its answers says.
use mathlib.Core.Bool.{Bool, true, false}
use mathlib.Core.Logic.{◌↔◌}
use mathlib.Core.Path.{◌≡◌, refl, sym, subst, ◌∙◌}
use lib.Dec.{T}
use Rattle.part.proofs.Choice.{T_true, true_T}

module _ {P : Type 0} (b : Bool) (exact : T b ↔ P) where
  pub true_so : b ≡ true → P
  true_so e = exact.0 (true_T b e)

  pub so_true : P → b ≡ true
  so_true p = T_true b (exact.1 p)

  pub false_not : b ≡ false → ¬ P
  false_not e p = subst T (sym (so_true p) ∙ e) tt

  pub no_false : ¬ P → b ≡ false
  no_false u = go b refl
    where
      go : (t : Bool) → b ≡ t → t ≡ false
      go true e = absurd (u (true_so e))
      go false e = refl
