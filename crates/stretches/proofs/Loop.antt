-- The loop that takes steps: what holds at step i, from the first step to the end. Steps of any kind, and those that each write one byte.
use mathlib.Core.List.{List}
use mathlib.Core.Path.{◌≡◌, refl, sym, ◌∙◌}
use Prim.Native.Nat.{ℕ, ◌+◌, ◌-◌, ◌≤◌, ◌<◌}
use native.Mathlib.Omega.{arith}
use lib.ListN.{length, set, length-set}
use Rattle.stretches.specs.Steps.{steps}
use Rattle.stretches.proofs.Steps.{one_more, no_more}

-- going on from here ends where going from the start ends
pub record Taking {A : Type 0} (f : ℕ → A → A) (from to : ℕ) (x₀ x : A) (i : ℕ) : Type 0 where
  pub below : i ≤ to
  pub ends : steps f i (to - i) x ≡ steps f from (to - from) x₀

module _ {A : Type 0} {f : ℕ → A → A} {from to : ℕ} {x₀ : A} where
  pub taking : from ≤ to → Taking f from to x₀ x₀ from
  taking h = record { below = h; ends = refl }

  pub taken : {x y : A} {i : ℕ} → Taking f from to x₀ x i → i < to → y ≡ f i x → Taking f from to x₀ y (i + 1)
  taken {x} {y} {i} t h e = rw e record { below = omega arith; ends = one_more f i to x h ∙ t.ends }

  pub took : {x : A} {i : ℕ} → Taking f from to x₀ x i → to ≤ i → x ≡ steps f from (to - from) x₀
  took {x} {i} t h = sym (no_more f i to x h) ∙ t.ends

-- step i writes byte i
abbrev pub writing : (ℕ → List ℕ → ℕ) → ℕ → List ℕ → List ℕ
writing v i l = set l i (v i l)

-- the same of these, the list as long as before
pub record Running (v : ℕ → List ℕ → ℕ) (from to : ℕ) (l₀ l : List ℕ) (i : ℕ) : Type 0 where
  pub below : i ≤ to
  pub long : length l ≡ length l₀
  pub ends : steps (writing v) i (to - i) l ≡ steps (writing v) from (to - from) l₀

module _ {v : ℕ → List ℕ → ℕ} {from to : ℕ} {l₀ : List ℕ} where
  pub moved : {l m : List ℕ} {i : ℕ} → Running v from to l₀ l i → i < to → m ≡ set l i (v i l) → Running v from to l₀ m (i + 1)
  moved {l} {m} {i} r h e =
      rw e
      record {
        below = omega arith;
        long = simp length-set r.long;
        ends = one_more (writing v) i to l h ∙ r.ends;
      }

  pub ended : {l : List ℕ} {i : ℕ} → Running v from to l₀ l i → to ≤ i → l ≡ steps (writing v) from (to - from) l₀
  ended {l} {i} r h = sym (no_more (writing v) i to l h) ∙ r.ends
