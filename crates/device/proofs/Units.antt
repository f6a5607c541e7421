-- n units of an operation in progress: its writes as far as it goes, and the machine that has come so far.
use mathlib.Core.Bool.{Bool, true, false, cond}
use mathlib.Core.Path.{◌≡◌, refl, sym, ap, ap₂, ◌∙◌}
use Prim.Native.Nat.{ℕ, zero, suc, ◌+◌, ◌-◌, ◌≤◌, ◌<◌, min}
use native.Mathlib.Nat.{add-zero}
use native.Mathlib.Omega.{arith}
use lib.Dec.{ltb}
use borrow.Author.Tests.{lt-ltb, le-ltb, ltb-true, ltb-false}
use Rattle.part.specs.declared.Geometry.{Geometry}
use Rattle.array.specs.Jobs.{Store, length_of, written, steps, many, onward}
use Rattle.array.specs.declared.Job.{Job}
use Rattle.array.specs.declared.Work.{Work}
use Rattle.array.specs.declared.Work.TheVariants.{Idle, Busy}
use Rattle.part.proofs.Choice.{cond_yes, cond_no}
use Rattle.device.specs.Machine.{Machine, with_state, with_store, with_work}
use Rattle.device.specs.Work.{ended, reached, unit_of, units, worked_state}

-- with no operation in progress units do nothing
pub units_idle : (g : Geometry) (n : ℕ) (m : Machine) → m.state.work ≡ Idle → units g n m ≡ m
unfolding units unit_of
units_idle g zero m e = refl
units_idle g (suc n) m e = ap (units g n) (ap (λ (w : Work). unit_of g w m) e) ∙ units_idle g n m e

-- the machine with so much of an operation done is in the state that the array's word puts it into
reached_worked : (g : Geometry) (j : Job) (k : ℕ) (m : Machine) → with_state (worked_state j (onward g j k) m.state) m ≡ reached g j k m
reached_worked g j k m = go (ltb k (length_of g j))
  where
    go : (b : Bool) → with_state (worked_state j (cond b (Busy j k) Idle) m.state) m ≡ cond b (with_work (Busy j k) m) (ended g j m)
    go true = refl
    go false = refl

-- how far an operation has come does not depend on what was in progress
reached_over : (g : Geometry) (j : Job) (k : ℕ) (w : Work) (m : Machine) → reached g j k (with_work w m) ≡ reached g j k m
reached_over g j k w m = go (ltb k (length_of g j))
  where
    go : (b : Bool) → cond b (with_work (Busy j k) m) (ended g j (with_work w m)) ≡ cond b (with_work (Busy j k) m) (ended g j m)
    go true = refl
    go false = refl

module _ (g : Geometry) (j : Job) where
  -- the machine with so much of the operation done
  abbrev up_to : ℕ → Store → Machine → Machine
  up_to i s m = reached g j i (with_store s m)

  -- one unit
  one_unit : (i : ℕ) (m : Machine) → m.state.work ≡ Busy j i → unit_of g m.state.work m ≡ up_to (suc i) (written g j i m.store) m
  unfolding unit_of
  one_unit i m e = ap (λ (w : Work). unit_of g w m) e

  pub units_busy : (n i : ℕ) (m : Machine) → i < length_of g j → m.state.work ≡ Busy j i → units g n m ≡ up_to (i + n) (many g j i n m.store) m
  unfolding units steps
  units_busy zero i m h e =
      let q : min 0 (length_of g j - i) ≡ 0 = omega arith in
      rw (q, add-zero i, lt-ltb i (length_of g j) h) (ap (λ (w : Work). with_work w m) e)
  units_busy (suc n) i m h e = go (λ m. units_busy n (suc i) m) (ltb (suc i) (length_of g j)) refl
    where
      m₁ : Machine
      m₁ = with_store (written g j i m.store) m

      go : ((m : Machine) → suc i < length_of g j → m.state.work ≡ Busy j (suc i) → units g n m ≡ up_to (suc i + n) (many g j (suc i) n m.store) m) →
          (b : Bool) → ltb (suc i) (length_of g j) ≡ b → units g n (unit_of g m.state.work m) ≡ up_to (i + suc n) (many g j i (suc n) m.store) m
      go on true p =
          let k : suc i < length_of g j = ltb-true (suc i) (length_of g j) p in
          let q : min (suc n) (length_of g j - i) ≡ suc (min n (length_of g j - suc i)) = omega arith in
          let a : suc i + n ≡ i + suc n = omega arith in
          ap (units g n) (one_unit i m e ∙ cond_yes _ (with_work (Busy j (suc i)) m₁) (ended g j m₁) p)
          ∙ on (with_work (Busy j (suc i)) m₁) k refl
          ∙ rw (q, a) (reached_over g j (i + suc n) (Busy j (suc i)) (with_store (many g j (suc i) n (written g j i m.store)) m))
      go on false p =
          let k : length_of g j ≤ suc i = ltb-false (suc i) (length_of g j) p in
          let q : min (suc n) (length_of g j - i) ≡ suc 0 = omega arith in
          let a : length_of g j ≤ i + suc n = omega arith in
          ap (units g n) (one_unit i m e ∙ cond_no _ (with_work (Busy j (suc i)) m₁) (ended g j m₁) p)
          ∙ units_idle g n (ended g j m₁) refl
          ∙ rw (q, le-ltb (i + suc n) (length_of g j) a)

  -- what the array leaves and says of n units, put into the machine
  pub units_done : (n i : ℕ) (m : Machine) (w : Work) (s : Store) → i < length_of g j → m.state.work ≡ Busy j i → w ≡ onward g j (i + n) → s ≡ many g j i n m.store
      → with_state (worked_state j w m.state) (with_store s m) ≡ units g n m
  units_done n i m w s h e p q =
      ap₂ (λ (w : Work) (s : Store). with_state (worked_state j w m.state) (with_store s m)) p q
      ∙ reached_worked g j (i + n) (with_store (many g j i n m.store) m)
      ∙ sym (units_busy n i m h e)
