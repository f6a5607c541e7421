-- Laws of a choice on a test, and of the tests.
use mathlib.Core.Bool.{Bool, true, false, cond, ◌&&◌}
use mathlib.Core.Path.{◌≡◌, refl, sym, subst}
use lib.Dec.{T}

-- a choice on a test that is known
module _ {A : Type 0} (b : Bool) (x y : A) where
  pub cond_yes : b ≡ true → cond b x y ≡ x
  cond_yes e = subst (λ (b : Bool). cond b x y ≡ x) (sym e) refl

  pub cond_no : b ≡ false → cond b x y ≡ y
  cond_no e = subst (λ (b : Bool). cond b x y ≡ y) (sym e) refl

-- what holds of both sides of a choice holds of the choice
pub cond_keep : {A : Type 0} (P : A → Type 0) (b : Bool) {x y : A} → (b ≡ true → P x) → (b ≡ false → P y) → P (cond b x y)
cond_keep P true p q = p refl
cond_keep P false p q = q refl

-- two choices on one test, compared
pub cond_two : {A B : Type 0} (P : A → B → Type 0) (b : Bool) {x y : A} {x' y' : B} → (b ≡ true → P x x') → (b ≡ false → P y y') → P (cond b x y) (cond b x' y')
cond_two P true p q = p refl
cond_two P false p q = q refl

-- a test that holds is true
pub T_true : (b : Bool) → T b → b ≡ true
T_true true t = refl
T_true false t = absurd t

pub true_T : (b : Bool) → b ≡ true → T b
true_T b e = rw e tt

pub and_l : (a b : Bool) → T (a && b) → T a
and_l true b t = tt
and_l false b t = t

pub and_r : (a b : Bool) → T (a && b) → T b
and_r true b t = t
and_r false b t = absurd t

pub and_in : (a b : Bool) → T a → T b → T (a && b)
and_in true b t u = u
and_in false b t u = t
