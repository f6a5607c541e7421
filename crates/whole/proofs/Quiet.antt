-- A transfer that a busy array let in: what its bytes, its end and its answers leave alone.
use mathlib.Core.Bool.{Bool, true, false, cond, not, ◌&&◌, ◌||◌}
use mathlib.Core.List.{List}
use mathlib.Core.Path.{◌≡◌, refl, sym, ap, ◌∙◌}
use Prim.Native.Nat.{ℕ, ◌≤◌}
use native.Mathlib.Omega.{arith}
use lib.Dec.{T, eqb, eqb→eq}
use borrow.Author.Tests.{ne_eqb, not-true, not-false}
use Rattle.part.specs.declared.Geometry.{Geometry}
use Rattle.part.proofs.Choice.{cond_keep, cond_two, T_true, true_T, and_l, and_r}
use Rattle.codes.specs.Codes.{byte_of, instruction_of, open?, heard_as, form_bytes}
use Rattle.transfer.specs.Transfer.{is, with_transfer, ends, heard, body_heard, shifted_in, cached}
use Rattle.transfer.specs.declared.Bus.{Bus}
use Rattle.transfer.specs.declared.Transfer.{Transfer}
use Rattle.codes.specs.declared.Instruction.{Instruction}
use Rattle.codes.specs.declared.Instruction.TheVariants.{Ignored, WriteEnable, WriteDisable, GetFeature, SetFeature, ReadId, PageRead, ReadCache, Load, LoadRandom, Execute, BlockErase, Reset}
use Rattle.device.specs.Machine.{Machine, over_bus}
use Rattle.device.specs.Work.{Array}
use Rattle.device.specs.Instructions.{effect, acted, deselects}
use Rattle.soundness.specs.Soundness.{let_in}
use Rattle.kept.proofs.Tests.{some_T}
use Rattle.whole.specs.Orderly.{first, unknown, resetting}

-- a byte after the first is one of an instruction that a busy array lets be
abbrev pub Quiet : Transfer → Type 0
Quiet t = T t.selected → 1 ≤ t.count → T (let_in t)

-- ---- tests

or_two : {A : Type 0} (a b : Bool) → (T a → A) → (T b → A) → T (a || b) → A
or_two true b f g t = f tt
or_two false b f g t = g t

-- what is let in is 0Fh, 9Fh, FFh or ignored
pub let_in_as : (P : ℕ → Type 0) (k : ℕ) → P 0x0F → P 0x9F → P 0xFF → P 256 → T (eqb k 0x0F || eqb k 0x9F || eqb k 0xFF || eqb k 256) → P k
let_in_as P k a b c d =
    or_two (eqb k 0x0F || eqb k 0x9F || eqb k 0xFF) (eqb k 256)
    (or_two (eqb k 0x0F || eqb k 0x9F) (eqb k 0xFF) (or_two (eqb k 0x0F) (eqb k 0x9F) (λ t. rw (eqb→eq k 0x0F t) a) (λ t. rw (eqb→eq k 0x9F t) b)) (λ t. rw (eqb→eq k 0xFF t) c))
    (λ t. rw (eqb→eq k 256 t) d)

-- and so no other code
pub let_in_not : (t : Transfer) (n : ℕ) → eqb 0x0F n ≡ false → eqb 0x9F n ≡ false → eqb 0xFF n ≡ false → eqb 256 n ≡ false → T (let_in t) → is t n ≡ false
let_in_not t n a b c d = let_in_as (λ k. eqb k n ≡ false) (byte_of t.instruction) a b c d

-- a byte of the body was heard, of a quiet transfer
pub body_let_in : (x : Bus) → Quiet x.transfer → body_heard x ≡ true → T (let_in x.transfer)
body_let_in x q e = q (and_l (heard x) _ (true_T _ e)) ((some_T x.transfer.count).0 (and_r (heard x) _ (true_T _ e)))

-- ---- a byte shifted

-- it leaves the cache register alone
pub cached_quiet : (g : Geometry) (x : Bus) (b : ℕ) (l : List ℕ) → Quiet x.transfer → cached g x b l ≡ l
unfolding cached
cached_quiet g x b l q =
    cond_keep (λ (r : List ℕ). r ≡ l) (not (body_heard x)) (λ e. refl)
    (λ e.
    let t = x.transfer in
    let i : T (let_in t) = body_let_in x q (not-false (body_heard x) e) in
    rw (let_in_not t 0x02 refl refl refl refl i, let_in_not t 0x84 refl refl refl refl i))

-- a code that no instruction has is ignored
pub none_ignored : (i : Instruction) → T (eqb (byte_of i) 256) → i ≡ Ignored
none_ignored Ignored t = refl
none_ignored WriteEnable t = absurd t
none_ignored WriteDisable t = absurd t
none_ignored GetFeature t = absurd t
none_ignored SetFeature t = absurd t
none_ignored ReadId t = absurd t
none_ignored PageRead t = absurd t
none_ignored ReadCache t = absurd t
none_ignored Load t = absurd t
none_ignored LoadRandom t = absurd t
none_ignored Execute t = absurd t
none_ignored BlockErase t = absurd t
none_ignored Reset t = absurd t

-- a first byte that is let in, or is no instruction's, is heard by a busy array as by an idle one
open_heard : (o : Bool) (b : ℕ) → T (open? b) → heard_as o b ≡ instruction_of b
open_heard true b t = rw (T_true (open? b) t)
open_heard false b t = refl

unknown_heard : (o : Bool) (b : ℕ) → T (unknown b) → heard_as o b ≡ Ignored
unknown_heard o b t = cond_keep (λ (i : Instruction). i ≡ Ignored) (o && not (open? b)) (λ e. refl) (λ e. none_ignored (instruction_of b) t)

heard_same : (o p : Bool) (b : ℕ) → T (open? b || unknown b) → heard_as o b ≡ heard_as p b
heard_same o p b = or_two (open? b) (unknown b) (λ t. open_heard o b t ∙ sym (open_heard p b t)) (λ t. unknown_heard o b t ∙ sym (unknown_heard p b t))

pub shifted_same : (g : Geometry) (o p : Bool) (b : ℕ) (x : Bus) → T (not (first x) || open? b || unknown b) → shifted_in g o b x ≡ shifted_in g p b x
unfolding shifted_in
shifted_same g o p b x a =
    cond_two (λ (y z : Bus). y ≡ z) (heard x)
    (λ e. ap (λ (t : Transfer). with_transfer t x)
    (cond_two (λ (y z : Transfer). y ≡ z) (eqb x.transfer.count 0)
    (λ k. ap (λ (i : Instruction). heard_with i x.transfer) (heard_same o p b (let_through (heard x) (eqb x.transfer.count 0) (open? b) (unknown b) e k a))) (λ k. refl))) (λ e. refl)
  where
    heard_with : Instruction → Transfer → Transfer
    heard_with i t = record { selected = t.selected; count = 1; instruction = i; first = t.first; second = t.second; third = t.third; column = t.column }

    let_through : (h z q u : Bool) → h ≡ true → z ≡ true → T (not (h && z) || q || u) → T (q || u)
    let_through h z q u e k t = rw (e, k) at t

-- ---- chip select rises

module _ (g : Geometry) (arr : Array) where
  -- no instruction acts, its bytes all there or not
  acts_none : (i : Instruction) (n : ℕ) (m : Machine) → (1 ≤ n → T (eqb (byte_of i) 0x0F || eqb (byte_of i) 0x9F || eqb (byte_of i) 0xFF || eqb (byte_of i) 256)) → T (not (eqb (byte_of i) 0xFF && eqb n (form_bytes i)))
      → cond (eqb n (form_bytes i)) (effect g arr i m) m ≡ m
  unfolding effect
  acts_none Ignored n m q h = cond_keep (λ (x : Machine). x ≡ m) (eqb n 0) (λ e. refl) (λ e. refl)
  acts_none GetFeature n m q h = cond_keep (λ (x : Machine). x ≡ m) (eqb n 0) (λ e. refl) (λ e. refl)
  acts_none ReadId n m q h = cond_keep (λ (x : Machine). x ≡ m) (eqb n 0) (λ e. refl) (λ e. refl)
  acts_none ReadCache n m q h = cond_keep (λ (x : Machine). x ≡ m) (eqb n 0) (λ e. refl) (λ e. refl)
  acts_none Load n m q h = cond_keep (λ (x : Machine). x ≡ m) (eqb n 0) (λ e. refl) (λ e. refl)
  acts_none LoadRandom n m q h = cond_keep (λ (x : Machine). x ≡ m) (eqb n 0) (λ e. refl) (λ e. refl)
  acts_none Reset n m q h = rw (not-true (eqb n 1) (T_true (not (eqb n 1)) h))
  acts_none WriteEnable n m q h = rw (ne_eqb n 1 (λ e. q (omega arith)))
  acts_none WriteDisable n m q h = rw (ne_eqb n 1 (λ e. q (omega arith)))
  acts_none SetFeature n m q h = rw (ne_eqb n 3 (λ e. q (omega arith)))
  acts_none PageRead n m q h = rw (ne_eqb n 4 (λ e. q (omega arith)))
  acts_none Execute n m q h = rw (ne_eqb n 4 (λ e. q (omega arith)))
  acts_none BlockErase n m q h = rw (ne_eqb n 4 (λ e. q (omega arith)))

  -- the chip is deselected, and no more
  pub deselects_quiet : (m : Machine) → Quiet m.state.bus.transfer → T (not (resetting m.state.bus.transfer)) → deselects g arr m ≡ cond m.state.bus.transfer.selected (over_bus ends m) m
  unfolding deselects acted
  deselects_quiet m q h =
      let t = m.state.bus.transfer in
      cond_two (λ (x y : Machine). x ≡ y) t.selected
      (λ e. ap (over_bus ends) (acts_none t.instruction t.count m (q (true_T t.selected e)) (rw e at h)))
      (λ e. refl)
