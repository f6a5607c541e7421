-- Bytes fed one after another: what a loop over them holds, and what it has when it ends or hands the rest on.
use mathlib.Core.Bool.{Bool, false}
use mathlib.Core.List.{List, [], ◌∷◌, ◌++◌, append_assoc, append-nil}
use mathlib.Core.Path.{◌≡◌, refl, sym, ap, ◌∙◌}
use Prim.Native.Nat.{ℕ, suc, ◌+◌, ◌-◌, ◌≤◌, ◌<◌}
use native.Mathlib.Numerals.{add-one}
use native.Mathlib.Omega.{arith}
use lib.ListN.{length, get_or, take, drop, set, length-set, length-drop, take-append-drop}
use lib.Seq.{take_all, drop-cons, drop-length, drop-drop, drop-set-lt, take-suc-set}
use Rattle.part.specs.declared.Column.{Column}
use Rattle.part.specs.declared.Geometry.{Geometry}
use Rattle.registers.specs.Registers.{oip}
use Rattle.transfer.specs.Transfer.{heard, shifted_in, cached}
use Rattle.transfer.specs.declared.Bus.{Bus}
use Rattle.reply.specs.Reply.{byte_out}
use Rattle.device.specs.Machine.{Machine, on_cache, bus_in}
use Rattle.device.specs.Instructions.{answer, shifts, fed, replies}
use Rattle.device.specs.declared.State.{State}
use Rattle.stream.specs.Streams.{at_column}
use Rattle.stream.proofs.Shifting.{Moves}
use Rattle.exchange.specs.Exchange.{Exchanged}

-- ---- places

-- i bytes of all, with room for all; the output behind them is as it was
pub record Upto (di out₀ out : List ℕ) (i : ℕ) : Type 0 where
  pub below : i ≤ length di
  pub room : length di ≤ length out₀
  pub out_long : length out ≡ length out₀
  pub rest : drop i out ≡ drop i out₀

pub upto_none : (di out : List ℕ) → length di ≤ length out → Upto di out out 0
upto_none di out h = record { below = omega arith; room = h; out_long = refl; rest = refl }

-- one more
pub upto_one : {di out₀ out : List ℕ} {i : ℕ} → Upto di out₀ out i → (x : ℕ) → i < length di → Upto di out₀ (set out i x) (i + 1)
upto_one {di} {out₀} {out} {i} h x l =
    record {
      below = omega arith;
      room = h.room;
      out_long = simp length-set h.out_long;
      rest = rw (add-one i, drop-set-lt (suc i) out i x (omega arith)) (sym (drop_one out) ∙ ap (drop 1) h.rest ∙ drop_one out₀);
    }
  where
    drop_one : (l : List ℕ) → drop 1 (drop i l) ≡ drop (suc i) l
    drop_one l = drop-drop 1 i l ∙ rw (add-one i)

-- ---- a machine fed

-- feeding the rest from here ends where feeding all from the start does, and the answers so far stand in the output
pub record Fed (g : Geometry) (di : List ℕ) (m₀ m : Machine) (out : List ℕ) (i : ℕ) : Type 0 where
  pub same : fed g (drop i di) m ≡ fed g di m₀
  pub lies : take i out ++ replies g (drop i di) m ≡ replies g di m₀

pub fed_none : (g : Geometry) (di : List ℕ) (m : Machine) (out : List ℕ) → Fed g di m m out 0
fed_none g di m out = record { same = refl; lies = refl }

-- what is left of a list, as the code lends it: the part up to its end; nothing stands behind it
part_rest : (i : ℕ) (l : List ℕ) → take (length l - i) (drop i l) ≡ drop i l
part_rest i l = take_all (length l - i) (drop i l) (rw (length-drop i l) (omega arith))

behind_part : (i : ℕ) (l : List ℕ) → drop (length l - i) (drop i l) ≡ []
behind_part i l = ap (λ (k : ℕ). drop k (drop i l)) (sym (length-drop i l)) ∙ drop-length (drop i l)

pub part_fits : {di out₀ out : List ℕ} {i : ℕ} → Upto di out₀ out i → length (take (length di - i) (drop i di)) ≤ length (take (length out - i) (drop i out))
part_fits {di} {out₀} {out} {i} u = rw (part_rest i di, part_rest i out, length-drop i di, length-drop i out) (omega (arith, u.room, u.out_long))

module _ {g : Geometry} {di : List ℕ} {m₀ m : Machine} {out₀ out : List ℕ} {i : ℕ} (u : Upto di out₀ out i) (h : Fed g di m₀ m out i) where
  -- one byte more
  pub fed_one : (x : ℕ) → i < length di → answer g m.state m.store.cache ≡ x → Fed g di m₀ (shifts g (get_or di i 0) m) (set out i x) (i + 1)
  unfolding fed replies
  fed_one x l e =
      let inside : i < length out = omega (arith, u.room, u.out_long) in
      record {
        same = rw (add-one i) (sym (ap (λ (l : List ℕ). fed g l m) (drop-cons di i 0 l)) ∙ h.same);
        lies =
            rw (add-one i, take-suc-set out i x inside, ← e)
            (append_assoc (take i out) (answer g m.state m.store.cache ∷ []) (replies g (drop (suc i) di) (shifts g (get_or di i 0) m))
            ∙ sym (ap (λ (l : List ℕ). take i out ++ replies g l m) (drop-cons di i 0 l)) ∙ h.lies);
      }

  -- what is there in the end
  abbrev pub Ended : Machine → List ℕ → Type 0
  Ended m₁ out₁ = (m₁ ≡ fed g di m₀) × (out₁ ≡ replies g di m₀ ++ drop (length di) out₀)

  -- all of them
  pub fed_all : length di ≤ i → Ended m out
  unfolding fed replies
  fed_all l = (
    sym (ap (λ (l : List ℕ). fed g l m) none) ∙ h.same,
    sym (take-append-drop i out)
        ∙ ap (λ (l : List ℕ). take i out ++ l) u.rest
        ∙ ap (λ (k : ℕ). take i out ++ drop k out₀) end
        ∙ ap (λ (l : List ℕ). l ++ drop (length di) out₀) (sym (append-nil (take i out)) ∙ sym (ap (λ (l : List ℕ). take i out ++ replies g l m) none) ∙ h.lies),
  )
    where
      end : i ≡ length di
      end = omega (arith, u.below)

      none : drop i di ≡ []
      none = ap (λ (k : ℕ). drop k di) end ∙ drop-length di

  -- the rest in one piece
  fed_rest : (m₁ : Machine) (out₁ : List ℕ) → m₁ ≡ fed g (drop i di) m → out₁ ≡ replies g (drop i di) m ++ drop (length (drop i di)) (drop i out) → Ended m₁ (take i out ++ out₁)
  fed_rest m₁ out₁ x y = (
    x ∙ h.same,
    rw y
        (sym (append_assoc (take i out) (replies g (drop i di) m) (drop (length (drop i di)) (drop i out)))
        ∙ rw h.lies (ap (λ (l : List ℕ). replies g di m₀ ++ l) behind)),
  )
    where
      end : i + length (drop i di) ≡ length di
      end = rw (length-drop i di) (omega (arith, u.below))

      behind : drop (length (drop i di)) (drop i out) ≡ drop (length di) out₀
      behind = rw u.rest (drop-drop (length (drop i di)) i out₀ ∙ ap (λ (k : ℕ). drop k out₀) end)

  -- the same of what the code lends
  pub fed_part : (m₁ : Machine) (out₁ : List ℕ) → m₁ ≡ fed g (take (length di - i) (drop i di)) m
      → out₁ ≡ replies g (take (length di - i) (drop i di)) m ++ drop (length (take (length di - i) (drop i di))) (take (length out - i) (drop i out))
      → Ended m₁ (take i out ++ (out₁ ++ drop (length out - i) (drop i out)))
  fed_part m₁ out₁ x y = rw (behind_part i out, append-nil out₁) (fed_rest m₁ out₁ (rw (part_rest i di) at x) (rw (part_rest i di, part_rest i out) at y))

-- ---- a state fed: only its bus and the cache register change, whatever else the machine holds

-- i bytes fed
pub record Along (g : Geometry) (s : State) (cache₀ di out₀ cache out : List ℕ) (x : Bus) (i : ℕ) : Type 0 where
  pub upto : Upto di out₀ out i
  pub cache_long : length cache ≡ length cache₀
  pub done : (m : Machine) → Fed g di (on_cache s cache₀ m) (on_cache (bus_in x s) cache m) out i

pub along_none : (g : Geometry) (s : State) (cache di out : List ℕ) → length di ≤ length out → Along g s cache di out cache out s.bus 0
along_none g s cache di out h = record { upto = upto_none di out h; cache_long = refl; done = λ m. fed_none g di (on_cache s cache m) out }

module _ {g : Geometry} {s : State} {cache₀ di out₀ cache out : List ℕ} {x : Bus} {i : ℕ} (h : Along g s cache₀ di out₀ cache out x i) where
  -- one byte more
  pub along_one : (x' : Bus) (cache' : List ℕ) (v : ℕ) → i < length di → length cache' ≡ length cache
      → ((m : Machine) → shifts g (get_or di i 0) (on_cache (bus_in x s) cache m) ≡ on_cache (bus_in x' s) cache' m) → answer g (bus_in x s) cache ≡ v
      → Along g s cache₀ di out₀ cache' (set out i v) x' (i + 1)
  along_one x' cache' v l k f e =
      record { upto = upto_one h.upto v l; cache_long = k ∙ h.cache_long; done = λ m. rw (← (f m)) (fed_one h.upto (h.done m) v l e) }

  -- one byte in a stream, or one as the bus takes it
  pub along_moves : {c c' : Column} {cache' : List ℕ} {v : ℕ} → x ≡ (at_column c s).bus → i < length di → length cache' ≡ length cache
      → Moves g s c c' cache cache' (get_or di i 0) v → Along g s cache₀ di out₀ cache' (set out i v) (at_column c' s).bus (i + 1)
  along_moves {c} {c'} {cache'} {v} e l k p = along_one (at_column c' s).bus cache' v l k (λ m. rw e (p.0 m)) (rw e p.1)

  pub along_bus : (busy : Bool) (x' : Bus) (cache' : List ℕ) (v : ℕ) → i < length di → length cache' ≡ length cache → busy ≡ oip s.regs.c0
      → x' ≡ shifted_in g busy (get_or di i 0) x → cache' ≡ cached g x (get_or di i 0) cache → v ≡ byte_out g s.regs x cache
      → Along g s cache₀ di out₀ cache' (set out i v) x' (i + 1)
  unfolding shifts answer
  along_bus busy x' cache' v l k y p q e = along_one x' cache' v l k (λ m. rw (p, q, y)) (sym e)

  -- while chip select is high nothing is heard, and the answer is FFh
  pub along_unheard : heard x ≡ false → i < length di → Along g s cache₀ di out₀ cache (set out i 0xFF) x (i + 1)
  unfolding shifted_in cached
  along_unheard q l = along_bus (oip s.regs.c0) x cache 0xFF l refl refl (rw q refl) (rw q refl) (rw q refl)

  -- all of them
  pub along_all : length di ≤ i → Exchanged g s cache₀ di out₀ (bus_in x s) cache out
  along_all l = record { after = λ m. (fed_all h.upto (h.done m) l).0; lies = λ m. (fed_all h.upto (h.done m) l).1 }

  -- the rest in one piece
  pub along_part : (s₁ : State) (cache₁ out₁ : List ℕ) → Exchanged g (bus_in x s) cache (take (length di - i) (drop i di)) (take (length out - i) (drop i out)) s₁ cache₁ out₁
      → Exchanged g s cache₀ di out₀ s₁ cache₁ (take i out ++ (out₁ ++ drop (length out - i) (drop i out)))
  along_part s₁ cache₁ out₁ y =
      record {
        after = λ m. (fed_part h.upto (h.done m) (on_cache s₁ cache₁ m) out₁ (y.after m) (y.lies m)).0;
        lies = λ m. (fed_part h.upto (h.done m) (on_cache s₁ cache₁ m) out₁ (y.after m) (y.lies m)).1;
      }
