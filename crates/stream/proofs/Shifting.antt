-- A stream of shifts: what one shift does, and what the loops over a stream hold.
use mathlib.Core.Bool.{Bool, true, false, cond, ◌&&◌, ◌||◌}
use mathlib.Core.List.{List}
use mathlib.Core.Path.{◌≡◌, refl, sym, ◌∙◌, subst}
use Prim.Native.Nat.{ℕ, ◌+◌, ◌-◌, ◌*◌, ◌/◌, ◌≤◌, ◌<◌, min}
use native.Mathlib.Omega.{arith}
use lib.Dec.{T, ltb, leb, eqb}
use lib.ListN.{length, get_or, set, length-set}
use borrow.Author.Tests.{eqb-true, eqb-false, ltb-true, leb-true}
use Rattle.part.specs.Part.{page}
use Rattle.part.specs.declared.Column.{Column}
use Rattle.part.specs.declared.Geometry.{Geometry}
use Rattle.part.proofs.Choice.{T_true, true_T, and_l, and_r}
use Rattle.codes.specs.Codes.{byte_of}
use Rattle.columns.specs.Columns.{next, next_read, cache_byte}
use Rattle.transfer.specs.Transfer.{is, heard, shifted_in, cached}
use Rattle.transfer.specs.declared.Bus.{Bus}
use Rattle.columns.proofs.Bytes.{get_d_any}
use Rattle.device.specs.Machine.{Machine, on_cache}
use Rattle.device.specs.Instructions.{answer, shifts}
use Rattle.device.specs.declared.State.{State}
use Rattle.stream.specs.Streams.{Past, InPage, in_page, loading, streams, at_column, ShiftAt, byte_in, Shifted, none, more, Follows, no_shift, Streamed}
use Rattle.stream.specs.declared.Stream.{Stream}

-- ---- a bus in a stream

module _ (x : Bus) (h : streams x ≡ true) where
  -- a byte is heard and the fifth has come
  abbrev reaches : Bool
  reaches = heard x && eqb x.transfer.count 5

  -- the test tells both
  pub streams_past : Past x
  streams_past =
      let r : T reaches = and_l reaches (is x.transfer 0x03 || loading x.transfer) (true_T _ h) in
      record { listens = T_true _ (and_l (heard x) (eqb x.transfer.count 5) r); counted = eqb-true _ _ (T_true _ (and_r (heard x) (eqb x.transfer.count 5) r)) }

  -- what does not read loads
  pub streams_loads : is x.transfer 0x03 ≡ false → loading x.transfer ≡ true
  streams_loads q =
      let e : (is x.transfer 0x03 || loading x.transfer) ≡ true = T_true _ (and_r reaches (is x.transfer 0x03 || loading x.transfer) (true_T _ h)) in
      rw q at e

-- ---- one shift in a stream

-- one byte on, from a column to the next, and what it puts out
abbrev pub Moves : Geometry → State → Column → Column → List ℕ → List ℕ → ℕ → ℕ → Type 0
Moves g s c c' cache cache' b x =
    ((m : Machine) → shifts g b (on_cache (at_column c s) cache m) ≡ on_cache (at_column c' s) cache' m) × (answer g (at_column c s) cache ≡ x)

-- one of two tests holds
either : {P : Type 0} (a b : Bool) → (a || b) ≡ true → (a ≡ true → P) → (b ≡ true → P) → P
either true b q f h = f refl
either false b q f h = h q

module _ (g : Geometry) (s : State) (p : Past s.bus) (c : Column) (cache : List ℕ) (b : ℕ) where
  -- 03h reads the cache register, round the page
  pub read_moves : is s.bus.transfer 0x03 ≡ true → Moves g s c (next_read (page g) c) cache cache b (cache_byte cache c)
  unfolding shifts shifted_in cached answer
  read_moves q =
      let e : byte_of s.bus.transfer.instruction ≡ 0x03 = eqb-true _ _ q in
      ((λ m. rw (p.listens, p.counted, e)), rw (p.listens, p.counted, e))

  -- at a column of the page it is a byte of the page
  pub round_moves : is s.bus.transfer 0x03 ≡ true → page g ≡ length cache → c.0 < length cache
      → Moves g s c (next_read (length cache) c) cache cache b (get_or cache c.0 0)
  round_moves q e h = rw (← e, get_d_any cache c.0 0 0xFF h) (read_moves q)

  -- 02h
  load_2 : is s.bus.transfer 0x02 ≡ true → Moves g s c (next c) cache (set cache c.0 b) b 0xFF
  unfolding shifts shifted_in cached answer
  load_2 q =
      let e : byte_of s.bus.transfer.instruction ≡ 0x02 = eqb-true _ _ q in
      ((λ m. rw (p.listens, p.counted, e)), rw (p.listens, p.counted, e))

  -- 84h
  load_84 : is s.bus.transfer 0x84 ≡ true → Moves g s c (next c) cache (set cache c.0 b) b 0xFF
  unfolding shifts shifted_in cached answer
  load_84 q =
      let e : byte_of s.bus.transfer.instruction ≡ 0x84 = eqb-true _ _ q in
      ((λ m. rw (p.listens, p.counted, e)), rw (p.listens, p.counted, e))

  -- 02h and 84h store at the column
  pub load_moves : loading s.bus.transfer ≡ true → Moves g s c (next c) cache (set cache c.0 b) b 0xFF
  load_moves q = either (is s.bus.transfer 0x02) (is s.bus.transfer 0x84) q load_2 load_84

-- the next column of a read in the page is in it
pub next_inside : (p : ℕ) (c : Column) → c.0 < p → (next_read p c).0 < p
next_inside p c h = go (eqb (c.0 + 1) p) refl
  where
    go : (b : Bool) → eqb (c.0 + 1) p ≡ b → (cond b (record { 0 = 0 }) (next c)).0 < p
    go true e = omega (arith, h)
    go false e = omega (arith, h, eqb-false (c.0 + 1) p e)

-- what the test of a column tells
pub in_page_lem : (g : Geometry) (cache : List ℕ) (c : Column) → in_page g cache c ≡ true → InPage g cache c
in_page_lem g cache c e =
    let long = eqb (length cache) (page g) in
    let small = leb (page g) 4096 in
    let both : T (long && small) = and_l (long && small) (ltb c.0 (page g)) (true_T _ e) in
    record {
      below = ltb-true _ _ (T_true _ (and_r (long && small) (ltb c.0 (page g)) (true_T _ e)));
      long = eqb-true _ _ (T_true _ (and_l long small both));
      small = leb-true _ _ (T_true _ (and_r long small both));
    }

-- ---- the loops

-- as many shifts as the log and the output have room for
pub record Roomy (log : List ℕ) (at written : ℕ) (out : List ℕ) (n : ℕ) : Type 0 where
  pub inside : at ≤ length log
  pub before : written ≤ length out
  pub most : n ≡ min ((length log - at) / 2) (length out - written)

-- every part
abbrev pub Any : Geometry → Type 0
Any g = T true

-- so many shifts done, on each part that is meant, the column and the buffers so far
pub record Streaming (On : Geometry → Type 0) (s : State) (log : List ℕ) (at written n : ℕ) (cache₀ out₀ cache out : List ℕ) (c : Column) (i : ℕ) : Type 0 where
  pub roomy : Roomy log at written out₀ n
  pub below : i ≤ n
  pub cache_long : length cache ≡ length cache₀
  pub out_keeps : length out ≡ length out₀
  pub done : (g : Geometry) → On g → (m : Machine) → Shifted g log at written (on_cache s cache₀ m) out₀ i (on_cache (at_column c s) cache m) out

-- before the first shift
pub before_first : (On : Geometry → Type 0) (s : State) (log : List ℕ) (at written n : ℕ) (cache out : List ℕ) → Roomy log at written out n
    → Streaming On s log at written n cache out cache out s.bus.transfer.column 0
before_first On s log at written n cache out r = record { roomy = r; below = omega arith; cache_long = refl; out_keeps = refl; done = λ g o m. none }

module _ {On : Geometry → Type 0} {s : State} {log : List ℕ} {at written n : ℕ} {cache₀ out₀ cache out : List ℕ} {c : Column} {i : ℕ} where
  -- one shift more
  pub moved : {cache' : List ℕ} {c' : Column} {x : ℕ} → Streaming On s log at written n cache₀ out₀ cache out c i → i < n → get_or log (at + 2 * i) 0 ≡ 2
      → length cache' ≡ length cache → ((g : Geometry) → On g → Moves g s c c' cache cache' (byte_in log (at + 2 * i)) x)
      → Streaming On s log at written n cache₀ out₀ cache' (set out (written + i) x) c' (i + 1)
  moved {cache'} {c'} {x} h l k e v =
      record {
        roomy = h.roomy;
        below = omega arith;
        cache_long = e ∙ h.cache_long;
        out_keeps = simp length-set h.out_keeps;
        done = λ g o m.
            let a : ShiftAt log (at + 2 * i) = record { inside = omega (arith, h.roomy.inside, h.roomy.most); kind = k } in
            let z : written + i < length out = omega (arith, h.roomy.before, h.roomy.most, h.out_keeps) in
            subst (λ (y : ℕ). Shifted g log at written (on_cache s cache₀ m) out₀ (i + 1) (on_cache (at_column c' s) cache' m) (set out (written + i) y)) (v g o).1
            (subst (λ (y : Machine). Shifted g log at written (on_cache s cache₀ m) out₀ (i + 1) y (set out (written + i) (answer g (at_column c s) cache))) ((v g o).0 m)
            (more (h.done g o m) a z));
      }

-- ---- all of them

module _ (g : Geometry) (s : State) (log : List ℕ) (at written : ℕ) (cache out : List ℕ) where
  -- none where none can follow
  no_shifts : (streams s.bus ≡ true → Follows log at written out 0 → ⊥) → Streamed g s log at written cache out (no_shift s) cache out
  no_shifts a = record { done = λ m. none; all = a; still = λ e. refl }

  not_both : streams s.bus ≡ false → streams s.bus ≡ true → ⊥
  not_both e f = subst T (sym f ∙ e) tt

  pub still_none : streams s.bus ≡ false → Streamed g s log at written cache out (no_shift s) cache out
  still_none e = no_shifts (λ f h. not_both e f)

  pub outside_none : length log < at → Streamed g s log at written cache out (no_shift s) cache out
  outside_none l = no_shifts (λ f h. omega (arith, h.0.inside))

  pub full_none : length out < written → Streamed g s log at written cache out (no_shift s) cache out
  full_none l = no_shifts (λ f h. omega (arith, h.1))

  -- those of a read or of a load
  pub some_shifts : (r : Stream) (cache₁ out₁ : List ℕ) → streams s.bus ≡ true
      → ((m : Machine) → Shifted g log at written (on_cache s cache m) out r.count (on_cache r.state cache₁ m) out₁)
      × (Follows log at written out r.count → ⊥) → Streamed g s log at written cache out r cache₁ out₁
  some_shifts r cache₁ out₁ e h = record { done = h.0; all = λ f. h.1; still = λ f. absurd (not_both f e) }
