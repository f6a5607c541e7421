-- Along the records of a log: the end, and the output byte by byte.
use mathlib.Core.Bool.{Bool, false, not}
use mathlib.Core.List.{List, [], ◌∷◌, ◌++◌}
use mathlib.Core.Path.{◌≡◌, refl, ap, ap₂, subst, ◌∙◌}
use Prim.Native.Nat.{ℕ, zero, suc, ◌<◌}
use native.Mathlib.Omega.{arith}
use lib.Dec.{T, leb, eqb}
use lib.ListN.{length, get_or}
use borrow.Author.Tests.{not-false}
use Rattle.part.specs.Part.{Sound}
use Rattle.part.specs.declared.Geometry.{Geometry}
use Rattle.part.proofs.Choice.{cond_two, and_l, and_r}
use Rattle.buslog.specs.declared.Record.{Record}
use Rattle.buslog.specs.declared.Record.TheVariants.{Select, Shift, Deselect, Units, Level, Power}
use Rattle.registers.specs.Registers.{register}
use Rattle.registers.specs.declared.Registers.{Registers}
use Rattle.array.specs.declared.Work.{Work}
use Rattle.array.specs.declared.Work.TheVariants.{Idle, Busy}
use Rattle.transfer.specs.Transfer.{is, body_heard}
use Rattle.device.specs.Machine.{Machine, with_work, status_in, work_in}
use Rattle.device.specs.Work.{unitwise}
use Rattle.device.specs.Instructions.{answer}
use Rattle.device.specs.Step.{step, run}
use Rattle.device.specs.declared.State.{State}
use Rattle.kept.specs.Kept.{SoundMachine, BytesIn}
use Rattle.kept.proofs.Steps.{step_keeps}
use Rattle.walk.specs.Turns.{puts}
use Rattle.model.specs.Runs.{bytes_out}
use Rattle.whole.specs.Whole.{whole}
use Rattle.whole.specs.Orderly.{allowed, orderly, of_status, asks, asked}
use Rattle.whole.proofs.Finish.{finish_as, finish}
use Rattle.whole.proofs.Quiet.{Quiet, let_in_not, body_let_in}
use Rattle.whole.proofs.Events.{quiet, follows}

-- ---- the byte on DO

-- of two register files that differ in C0h alone, another address reads the same
register_same : (r : Registers) (c a : ℕ) → eqb a 0xC0 ≡ false → register r a ≡ register (record { a0 = r.a0; b0 = r.b0; c0 = c; d0 = r.d0 }) a
unfolding register
register_same r c a e = rw e

-- with another status, other work and another cache register, a quiet transfer answers the same, but for the status itself
answer_same : (g : Geometry) (s : State) (c : ℕ) (w : Work) (l l' : List ℕ) → Quiet s.bus.transfer → of_status s.bus ≡ false → answer g s l ≡ answer g (work_in w (status_in c s)) l'
unfolding answer
answer_same g s c w l l' q h =
    let t = s.bus.transfer in
    cond_two (λ (x y : ℕ). x ≡ y) (not (body_heard s.bus)) (λ e. refl)
    (λ e. cond_two (λ (x y : ℕ). x ≡ y) (is t 0x0F)
    (λ e₁. cond_two (λ (x y : ℕ). x ≡ y) (leb 2 t.count) (λ e₂. register_same s.regs c t.first (rw (not-false (body_heard s.bus) e, e₁, e₂) at h)) (λ e₂. refl))
    (λ e₁. cond_two (λ (x y : ℕ). x ≡ y) (is t 0x9F) (λ e₂. refl)
    (λ e₂. rw (let_in_not t 0x03 refl refl refl refl (body_let_in s.bus q (not-false (body_heard s.bus) e))))))

-- so the unitwise machine and the same worked to its end answer the same
shows : (g : Geometry) (m : Machine) → SoundMachine g m → of_status m.state.bus ≡ false → answer g m.state m.store.cache ≡ answer g (finish g m).state (finish g m).store.cache
shows g m h q = go m.state.work m h q
  where
    go : (w : Work) (m : Machine) → SoundMachine g (with_work w m) → of_status m.state.bus ≡ false
        → answer g (with_work w m).state m.store.cache ≡ answer g (finish_as g w (with_work w m)).state (finish_as g w (with_work w m)).store.cache
    go Idle m h q = refl
    go (Busy j i) m h q = answer_same g (with_work (Busy j i) m).state _ Idle m.store.cache _ (quiet g j i m h) q

-- ---- the whole of a log

-- two outputs of one length agree at each place that is not asked about
unfoldable pub Agree : List Bool → List ℕ → List ℕ → Type 0
Agree [] [] [] = Unit {0}
Agree [] [] (y ∷ ys) = ⊥
Agree [] (x ∷ xs) ys = ⊥
Agree (q ∷ qs) [] ys = ⊥
Agree (q ∷ qs) (x ∷ xs) [] = ⊥
Agree (q ∷ qs) (x ∷ xs) (y ∷ ys) = (q ≡ false → x ≡ y) × Agree qs xs ys

pub agree_by : {qs qs' : List Bool} {xs xs' ys ys' : List ℕ} → qs ≡ qs' → xs ≡ xs' → ys ≡ ys' → Agree qs' xs' ys' → Agree qs xs ys
agree_by e f h a = rw (e, f, h) a

pub agree_length : (qs : List Bool) (xs ys : List ℕ) → Agree qs xs ys → length xs ≡ length ys
unfolding Agree
agree_length [] [] [] a = refl
agree_length [] [] (y ∷ ys) a = absurd a
agree_length [] (x ∷ xs) ys a = absurd a
agree_length (q ∷ qs) [] ys a = absurd a
agree_length (q ∷ qs) (x ∷ xs) [] a = absurd a
agree_length (q ∷ qs) (x ∷ xs) (y ∷ ys) a = ap suc (agree_length qs xs ys a.1)

pub agree_at : (qs : List Bool) (xs ys : List ℕ) → Agree qs xs ys → (n : ℕ) → n < length xs → get_or qs n false ≡ false → get_or xs n 0 ≡ get_or ys n 0
unfolding Agree
agree_at [] [] [] a n h e = refl
agree_at [] [] (y ∷ ys) a n h e = absurd a
agree_at [] (x ∷ xs) ys a n h e = absurd a
agree_at (q ∷ qs) [] ys a n h e = absurd a
agree_at (q ∷ qs) (x ∷ xs) [] a n h e = absurd a
agree_at (q ∷ qs) (x ∷ xs) (y ∷ ys) a zero h e = a.0 e
agree_at (q ∷ qs) (x ∷ xs) (y ∷ ys) a (suc n) h e = agree_at qs xs ys a.1 n (omega arith) e

module _ (g : Geometry) (s : Sound g) where
  pub end_follows : (es : List Record) (m : Machine) → SoundMachine g m → BytesIn es → T (orderly g m es) → finish g (run g (unitwise g) m es) ≡ run g (whole g) (finish g m) es
  unfolding run orderly
  end_follows [] m h b o = refl
  end_follows (e ∷ es) m h b o =
      end_follows es (step g (unitwise g) m e) (step_keeps g s m e b.0 h) b.1 (and_r (allowed m.state e) _ o)
      ∙ ap (λ (x : Machine). run g (whole g) x es) (follows g s m h e (and_l (allowed m.state e) _ o))

  -- what one record puts out, before what the others do
  puts_agree : (e : Record) (m : Machine) → SoundMachine g m → (qs : List Bool) (xs ys : List ℕ) → Agree qs xs ys → Agree (asks m e ++ qs) (puts g m e ++ xs) (puts g (finish g m) e ++ ys)
  unfolding Agree
  puts_agree (Shift b) m h qs xs ys a = (shows g m h, a)
  puts_agree Select m h qs xs ys a = a
  puts_agree Deselect m h qs xs ys a = a
  puts_agree (Units n) m h qs xs ys a = a
  puts_agree (Level v) m h qs xs ys a = a
  puts_agree Power m h qs xs ys a = a

  pub out_follows : (es : List Record) (m : Machine) → SoundMachine g m → BytesIn es → T (orderly g m es) → Agree (asked g (unitwise g) m es) (bytes_out g (unitwise g) m es) (bytes_out g (whole g) (finish g m) es)
  unfolding orderly asked bytes_out Agree
  out_follows [] m h b o = tt
  out_follows (e ∷ es) m h b o =
      puts_agree e m h _ _ _
      (subst (λ (x : Machine). Agree (asked g (unitwise g) (step g (unitwise g) m e) es) (bytes_out g (unitwise g) (step g (unitwise g) m e) es) (bytes_out g (whole g) x es))
      (follows g s m h e (and_l (allowed m.state e) _ o))
      (out_follows es (step g (unitwise g) m e) (step_keeps g s m e b.0 h) b.1 (and_r (allowed m.state e) _ o)))

  -- which shifts answer the status is the same in both runs
  asks_same : (e : Record) (m : Machine) → asks m e ≡ asks (finish g m) e
  asks_same (Shift b) m = ap {B = List Bool} (λ q. q ∷ []) (go m.state.work)
    where
      go : (w : Work) → of_status m.state.bus ≡ of_status (finish_as g w m).state.bus
      go Idle = refl
      go (Busy j i) = refl
  asks_same Select m = refl
  asks_same Deselect m = refl
  asks_same (Units n) m = refl
  asks_same (Level v) m = refl
  asks_same Power m = refl

  pub asked_follows : (es : List Record) (m : Machine) → SoundMachine g m → BytesIn es → T (orderly g m es) → asked g (unitwise g) m es ≡ asked g (whole g) (finish g m) es
  unfolding orderly asked
  asked_follows [] m h b o = refl
  asked_follows (e ∷ es) m h b o =
      ap₂ (λ (x y : List Bool). x ++ y) (asks_same e m)
      (asked_follows es (step g (unitwise g) m e) (step_keeps g s m e b.0 h) b.1 (and_r (allowed m.state e) _ o)
      ∙ ap (λ (x : Machine). asked g (whole g) x es) (follows g s m h e (and_l (allowed m.state e) _ o)))
