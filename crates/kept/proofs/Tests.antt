-- Laws of tests, besides those that stand with the part.
use mathlib.Core.Bool.{Bool, true, false, not, ◌&&◌, ◌||◌}
use mathlib.Core.Logic.{◌↔◌}
use Prim.Native.Nat.{ℕ, zero, suc, ◌≤◌}
use native.Mathlib.Omega.{arith}
use lib.Dec.{T, eqb, eqb→eq, not_T}
use Rattle.part.proofs.Choice.{and_l, and_r, and_in}

-- a number is not 0, as a test and in words
pub some_T : (n : ℕ) → T (not (eqb n 0)) ↔ 1 ≤ n
some_T n = (in_words n, λ h. not_T (eqb n 0) (λ t. omega (arith, eqb→eq n 0 t)))
  where
    in_words : (n : ℕ) → T (not (eqb n 0)) → 1 ≤ n
    in_words zero t = absurd t
    in_words (suc n) t = omega arith

-- "not a, or not b, or z, or l" is "if a and b and not z, then l"
pub unless : (a b z l : Bool) → T (not a || not b || z || l) ↔ (T a → T b → T (not z) → T l)
unless true true true l = (λ t u v w. absurd w, λ f. tt)
unless true true false l = (λ t u v w. t, λ f. f tt tt tt)
unless true false z l = (λ t u v w. absurd v, λ f. tt)
unless false b z l = (λ t u v w. absurd u, λ f. tt)

-- both of two tests hold exactly when both statements do
pub both : (a b : Bool) {A B : Type 0} → T a ↔ A → T b ↔ B → T (a && b) ↔ A × B
both a b p q = (λ t. (p.0 (and_l a b t), q.0 (and_r a b t)), λ h. and_in a b (p.1 h.0) (q.1 h.1))

-- and so for four
module _ {A B C D : Type 0} (a b c d : Bool) where
  pub four : T a ↔ A → T b ↔ B → T c ↔ C → T d ↔ D → T (a && b && c && d) ↔ (A × B × C × D)
  four pa pb pc pd = (λ t. let x = nested.0 t in (x.0.0.0, x.0.0.1, x.0.1, x.1), λ x. nested.1 (((x.0, x.1), x.2), x.3))
    where
      nested : T (a && b && c && d) ↔ (((A × B) × C) × D)
      nested = both (a && b && c) d (both (a && b) c (both a b pa pb) pc) pd
