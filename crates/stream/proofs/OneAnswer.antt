-- T7 for this crate: the contract of the stream allows one answer, and one content of the lent memory.
use mathlib.Core.Bool.{Bool, true, false}
use mathlib.Core.List.{List, []}
use mathlib.Core.Path.{◌≡◌, refl, sym, ap, ap₂, subst, ◌∙◌}
use Prim.Native.Nat.{ℕ, zero, suc, ◌+◌, ◌*◌, ◌<◌}
use native.Mathlib.Numerals.{add-one}
use native.Mathlib.Omega.{arith}
use lib.Dec.{ltb}
use lib.ListN.{length, set, length-set}
use borrow.Author.Tests.{ltb-true, ltb-false}
use Rattle.part.specs.OneAnswer.{OneAnswer, OneEnd}
use Rattle.part.specs.declared.Geometry.{Geometry}
use Rattle.device.specs.Machine.{Machine, machine, on_cache}
use Rattle.device.specs.Instructions.{answer, shifts}
use Rattle.device.specs.declared.State.{State}
use Rattle.stream.specs.Streams.{byte_in, Shifted, none, more, Follows, streams, Streamed}
use Rattle.stream.specs.declared.Stream.{Stream}
use Rattle.stream.proofs.streams.Reads as streams-reads
use Rattle.stream.proofs.streams.Kinds as streams-kinds
use Rattle.stream.proofs.at_column.Reads as at-column-reads
use Rattle.stream.proofs.at_column.Kinds as at-column-kinds
use Rattle.stream.proofs.shifts.Reads as shifts-reads
use Rattle.stream.proofs.shifts.Kinds as shifts-kinds

-- the cache register and the output
pub record Lent : Type 0 where
  pub cache : List ℕ
  pub out : List ℕ

abbrev pub lent : List ℕ → List ℕ → Lent
lent cache out = record { cache = cache; out = out }

-- a machine, and the output beside it
record Both : Type 0 where
  pub machine : Machine
  pub out : List ℕ

abbrev both : Machine → List ℕ → Both
both m out = record { machine = m; out = out }

module _ (g : Geometry) (log : List ℕ) (at written : ℕ) (m₀ : Machine) (out₀ : List ℕ) where
  -- what k shifts come to
  after : ℕ → Both
  after zero = record { machine = m₀; out = out₀ }
  after (suc k) = let b = after k in record { machine = shifts g (byte_in log (at + 2 * k)) b.machine; out = set b.out (written + k) (answer g b.machine.state b.machine.store.cache) }

  after_shifts : {k : ℕ} {m : Machine} {out : List ℕ} → Shifted g log at written m₀ out₀ k m out → both m out ≡ after k
  unfolding after
  after_shifts none = refl
  after_shifts (more {k} {m} {out} d a z) =
      rw (add-one k)
      (ap (λ (b : Both). record { machine = shifts g (byte_in log (at + 2 * k)) b.machine; out = set b.out (written + k) (answer g b.machine.state b.machine.store.cache) }) (after_shifts d))

  -- before the last of them another one followed
  followed : {k : ℕ} {m : Machine} {out : List ℕ} → Shifted g log at written m₀ out₀ k m out → (length out ≡ length out₀) × ((j : ℕ) → j < k → Follows log at written out₀ j)
  followed none = (refl, λ j l. absurd (omega arith))
  followed (more {k} {m} {out} d a z) = let f = followed d in (simp length-set f.0, λ j l. go f.0 f.1 j l (ltb j k) refl)
    where
      go : length out ≡ length out₀ → ((j : ℕ) → j < k → Follows log at written out₀ j) → (j : ℕ) → j < k + 1 → (b : Bool) → ltb j k ≡ b → Follows log at written out₀ j
      go n f j l true e = f j (ltb-true j k e)
      go n f j l false e =
          let q : k ≡ j = omega (arith, ltb-false j k e) in
          subst (λ (i : ℕ). Follows log at written out₀ i) q (a, omega (arith, n, z))

module _ (g : Geometry) (s : State) (log : List ℕ) (at written : ℕ) (cache out : List ℕ) {x y : Stream} {c₁ o₁ c₂ o₂ : List ℕ} (p : Streamed g s log at written cache out x c₁ o₁) (q : Streamed g s log at written cache out y c₂ o₂) where
  any : Machine
  any = machine s [] [] []

  -- as many shifts
  as_many : x.count ≡ y.count
  unfolding any
  as_many = go (streams s.bus) refl
    where
      go : (b : Bool) → streams s.bus ≡ b → x.count ≡ y.count
      go false e = p.still e ∙ sym (q.still e)
      go true e = equal (ltb x.count y.count) refl (ltb y.count x.count) refl
        where
          equal : (a : Bool) → ltb x.count y.count ≡ a → (b : Bool) → ltb y.count x.count ≡ b → x.count ≡ y.count
          equal true h b k = absurd (p.all e ((followed g log at written _ out (q.done any)).1 x.count (ltb-true _ _ h)))
          equal false h true k = absurd (q.all e ((followed g log at written _ out (p.done any)).1 y.count (ltb-true _ _ k)))
          equal false h false k = omega (arith, ltb-false x.count y.count h, ltb-false y.count x.count k)

  same_end : both (on_cache x.state c₁ any) o₁ ≡ both (on_cache y.state c₂ any) o₂
  unfolding any
  same_end =
      after_shifts g log at written _ out (p.done any)
      ∙ ap (after g log at written (on_cache s cache any) out) as_many
      ∙ sym (after_shifts g log at written _ out (q.done any))

  pub one_stream : x ≡ y
  unfolding any
  one_stream = ap₂ (λ (t : State) (k : ℕ). record { state = t; count = k }) (ap (λ (b : Both). b.machine.state) same_end) as_many

  pub one_memory : lent c₁ o₁ ≡ lent c₂ o₂
  unfolding any
  one_memory = ap (λ (b : Both). lent b.machine.store.cache b.out) same_end

pub shifts_one : OneEnd 3 shifts-kinds.ps shifts-kinds.r Lent (λ κs s. lent s.1.1.1.1.0.now s.1.1.1.1.1.0.now) shifts-reads.Post
shifts_one κs a x y s t p q = (one_stream _ _ _ _ _ _ _ p q, one_memory _ _ _ _ _ _ _ p q)

pub streams_one : OneAnswer 0 streams-kinds.ps streams-kinds.r streams-reads.Post
streams_one κs a x y s t p q = p ∙ sym q

pub at_column_one : OneAnswer 0 at-column-kinds.ps at-column-kinds.r at-column-reads.Post
at_column_one κs a x y s t p q = p ∙ sym q
