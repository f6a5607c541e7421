-- The operation in progress worked to its end: what the bus does meanwhile, units before the rest, and an operation that has just begun.
use mathlib.Core.Bool.{Bool, true, false}
use mathlib.Core.Path.{◌≡◌, refl, sym, ap, ◌∙◌}
use Prim.Native.Nat.{ℕ, zero, suc, ◌+◌, ◌-◌, ◌%◌, ◌<◌, min}
use native.Mathlib.Nat.{add-zero, add-suc, suc-add, zero-add}
use native.Mathlib.Omega.{arith}
use lib.Dec.{ltb}
use borrow.Author.Tests.{le-ltb, ltb-true, ltb-false}
use Rattle.part.specs.Part.{Sound}
use Rattle.part.specs.declared.Geometry.{Geometry}
use Rattle.registers.specs.Registers.{oip_set, oip_cleared}
use Rattle.array.specs.Jobs.{Store, length_of, written, steps, many, InArray, Fits}
use Rattle.array.specs.declared.Job.{Job}
use Rattle.array.specs.declared.Work.{Work}
use Rattle.array.specs.declared.Work.TheVariants.{Idle, Busy}
use Rattle.transfer.specs.declared.Bus.{Bus}
use Rattle.device.specs.Machine.{Machine, with_store, over_store, with_work, over_bus}
use Rattle.device.specs.Work.{begins, ended, reached, units}
use Rattle.device.proofs.Units.{units_idle, units_busy}
use Rattle.whole.specs.Whole.{done}
use Rattle.whole.proofs.Pages.{units_whole}

-- the units that are left, and then the operation's end
abbrev pub finish_as : Geometry → Work → Machine → Machine
finish_as g Idle m = m
finish_as g (Busy j i) m = ended g j (over_store (steps (written g j) i (length_of g j - i)) m)

abbrev pub finish : Geometry → Machine → Machine
finish g m = finish_as g m.state.work m

-- what the bus changes may be changed before or after
pub finish_bus : (g : Geometry) (f : Bus → Bus) (m : Machine) → finish g (over_bus f m) ≡ over_bus f (finish g m)
finish_bus g f m = go m.state.work
  where
    go : (w : Work) → finish_as g w (over_bus f m) ≡ over_bus f (finish_as g w m)
    go Idle = refl
    go (Busy j i) = refl

-- ---- units before the rest

steps_on : {A : Type 0} (f : ℕ → A → A) (n i k : ℕ) (x : A) → steps f (i + n) k (steps f i n x) ≡ steps f i (n + k) x
unfolding steps
steps_on f zero i k x = rw (add-zero i, zero-add k)
steps_on f (suc n) i k x = rw (add-suc i n, ← suc-add i n, suc-add n k) (steps_on f n (suc i) k (f i x))

module _ (g : Geometry) (j : Job) (i : ℕ) (h : i < length_of g j) (m : Machine) where
  -- with n units of it done, the rest comes to the same
  rest_same : (n : ℕ) → finish g (reached g j (i + n) (with_store (many g j i n m.store) m)) ≡ finish_as g (Busy j i) m
  rest_same n = go (ltb (i + n) (length_of g j)) refl
    where
      go : (b : Bool) → ltb (i + n) (length_of g j) ≡ b → finish g (reached g j (i + n) (with_store (many g j i n m.store) m)) ≡ finish_as g (Busy j i) m
      go true e =
          let k : i + n < length_of g j = ltb-true (i + n) (length_of g j) e in
          let p : min n (length_of g j - i) ≡ n = omega arith in
          let q : n + (length_of g j - (i + n)) ≡ length_of g j - i = omega arith in
          rw (e, p)
          (ap (λ (s : Store). ended g j (with_store s m)) (steps_on (written g j) n i (length_of g j - (i + n)) m.store ∙ ap (λ (k : ℕ). steps (written g j) i k m.store) q))
      go false e =
          let p : min n (length_of g j - i) ≡ length_of g j - i = omega (arith, ltb-false (i + n) (length_of g j) e) in
          rw (e, p)

pub finish_units : (g : Geometry) (j : Job) (i n : ℕ) (m : Machine) → i < length_of g j → finish g (units g n (with_work (Busy j i) m)) ≡ finish g (with_work (Busy j i) m)
finish_units g j i n m h = ap (finish g) (units_busy g j n i (with_work (Busy j i) m) h refl) ∙ rest_same g j i h (with_work (Busy j i) m) n

pub finish_idle : (g : Geometry) (n : ℕ) (m : Machine) → finish g (units g n (with_work Idle m)) ≡ with_work Idle m
finish_idle g n m = ap (finish g) (units_idle g n (with_work Idle m) refl)

-- ---- an operation that has just begun

-- begun by an idle machine and worked to its end, it is done whole
pub finish_begun : (g : Geometry) → Sound g → (j : Job) → InArray g j → (m : Machine) → Fits g m.store → m.state.regs.c0 % 2 ≡ 0
    → finish g (begins j (with_work Idle m)) ≡ over_store (done g j) (with_work Idle m)
finish_begun g s j a m f e =
    let p : length_of g j - 0 ≡ length_of g j = omega arith in
    let q : oip_cleared (oip_set m.state.regs.c0) ≡ m.state.regs.c0 = omega arith in
    rw (p, q) (ap (λ (x : Store). with_store x (with_work Idle m)) (units_whole g s j a m.store f))

-- ---- the work to its end is some units of work

pub finish_is_units : (g : Geometry) (j : Job) (i : ℕ) (m : Machine) → i < length_of g j → finish g (with_work (Busy j i) m) ≡ units g (length_of g j - i) (with_work (Busy j i) m)
finish_is_units g j i m h =
    let p : i + (length_of g j - i) ≡ length_of g j = omega arith in
    let q : min (length_of g j - i) (length_of g j - i) ≡ length_of g j - i = omega arith in
    sym (units_busy g j (length_of g j - i) i (with_work (Busy j i) m) h refl ∙ rw (p, q, le-ltb (length_of g j) (length_of g j) (omega arith)))
