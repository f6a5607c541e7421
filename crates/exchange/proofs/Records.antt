-- The records of bytes on the bus: their log is read to its end, what of it fits, and what its run leaves.
use Rattle.std.specs.Prelude.{if◌then◌else◌}
use mathlib.Core.Bool.{true}
use mathlib.Core.List.{List, [], ◌∷◌, ◌++◌, append-nil}
use mathlib.Core.Path.{◌≡◌, refl, sym, ap, ◌∙◌}
use Prim.Native.Nat.{ℕ, zero, suc, ◌+◌, ◌-◌, ◌≤◌, ◌<◌, min}
use native.Mathlib.Numerals.{add-one}
use native.Mathlib.Omega.{arith}
use lib.Dec.{T, ltb}
use lib.ListN.{length, take, drop, length-append}
use lib.Seq.{take_all, length-take-le}
use borrow.Author.Tests.{lt-ltb, le-ltb}
use Rattle.part.specs.Part.{Sound}
use Rattle.part.specs.declared.Geometry.{Geometry}
use Rattle.buslog.specs.Log.{written, levels_sound, Bytes}
use Rattle.buslog.specs.Read.{parse}
use Rattle.buslog.specs.Write.{over}
use Rattle.buslog.specs.declared.Record.{Record}
use Rattle.buslog.specs.declared.Record.TheVariants.{Select, Shift, Deselect}
use Rattle.buslog.proofs.Logs.{parse_written}
use Rattle.transfer.specs.Transfer.{selects}
use Rattle.device.specs.Machine.{Machine, on_cache, bus_in, over_bus}
use Rattle.device.specs.Work.{Array}
use Rattle.device.specs.Instructions.{answer, shifts, fed, replies, deselects}
use Rattle.device.specs.Step.{step, run}
use Rattle.device.specs.declared.State.{State}
use Rattle.kept.specs.Kept.{SoundMachine}
use Rattle.kept.proofs.Steps.{step_keeps}
use Rattle.refusals.specs.Refusals.{passed, checked_as}
use Rattle.refusals.specs.declared.Refusal.{Refusal}
use Rattle.refusals.specs.declared.Refusal.TheVariants.{Done, NoRoom}
use Rattle.walk.specs.declared.Answer.{Answer}
use Rattle.buslog.proofs.RoundTrip.{over_none}
use Rattle.model.specs.Runs.{End, shifts_in, fitting, bytes_out, did, ran_of, run_of, seen, shown}
use Rattle.model.proofs.Single.{run_ran}
use Rattle.model.proofs.Rooms.{fitting_all, run_parts, out_parts, shifts_append}
use Rattle.exchange.specs.Exchange.{shifts_of, transfer_of, unlogged, Exchanged}

-- ---- the records

-- no level is among them
levels_shifts : (di : List ℕ) (es : List Record) → T (levels_sound es) → T (levels_sound (shifts_of di ++ es))
unfolding shifts_of levels_sound
levels_shifts [] es h = h
levels_shifts (b ∷ di) es h = levels_shifts di es h

pub levels_alone : (di : List ℕ) → T (levels_sound (shifts_of di))
unfolding shifts_of levels_sound
levels_alone [] = tt
levels_alone (b ∷ di) = levels_alone di

pub levels_transfer : (di : List ℕ) → T (levels_sound (transfer_of di))
unfolding levels_sound
levels_transfer di = levels_shifts di (Deselect ∷ []) tt

-- a shift for each byte
pub shifts_many : (di : List ℕ) → shifts_in (shifts_of di) ≡ length di
unfolding shifts_of shifts_in
shifts_many [] = refl
shifts_many (b ∷ di) = rw (shifts_many di) (omega arith)

pub transfer_shifts : (di : List ℕ) → shifts_in (transfer_of di) ≡ length di
unfolding shifts_in
transfer_shifts di = rw (shifts_append (shifts_of di) (Deselect ∷ []), shifts_many di) (omega arith)

length_shifts : (di : List ℕ) → length (shifts_of di) ≡ length di
unfolding shifts_of
length_shifts [] = refl
length_shifts (b ∷ di) = ap suc (length_shifts di)

-- with too little room, as many as it has room for
fitting_short : (room : ℕ) (di : List ℕ) (es : List Record) → room < length di → fitting room (shifts_of di ++ es) ≡ shifts_of (take room di)
unfolding shifts_of fitting
fitting_short room [] es h = absurd (omega (arith, h))
fitting_short zero (b ∷ di) es h = refl
fitting_short (suc room) (b ∷ di) es h =
    let e : suc room - 1 ≡ room = omega arith in
    rw (le-ltb (suc room) 1 (omega arith), e) (ap {B = List Record} (λ x. Shift b ∷ x) (fitting_short room di es (omega (arith, h))))

-- and behind a select the same
pub transfer_fitting : (room : ℕ) (di : List ℕ) → room < length di → fitting room (transfer_of di) ≡ Select ∷ shifts_of (take room di)
unfolding fitting
transfer_fitting room di h =
    let z : room - 0 ≡ room = omega arith in
    rw (le-ltb room 0 (omega arith), z) (ap {B = List Record} (λ x. Select ∷ x) (fitting_short room di (Deselect ∷ []) h))

-- ---- what they do

module _ (g : Geometry) (arr : Array) where
  run_fed : (di : List ℕ) (m : Machine) → run g arr m (shifts_of di) ≡ fed g di m
  unfolding shifts_of run step fed
  run_fed [] m = refl
  run_fed (b ∷ di) m = run_fed di (shifts g b m)

  pub out_replies : (di : List ℕ) (m : Machine) → bytes_out g arr m (shifts_of di) ≡ replies g di m
  unfolding shifts_of bytes_out step replies
  out_replies [] m = refl
  out_replies (b ∷ di) m = ap (λ (l : List ℕ). answer g m.state m.store.cache ∷ l) (out_replies di (shifts g b m))

  length_replies : (di : List ℕ) (m : Machine) → length (replies g di m) ≡ length di
  unfolding replies
  length_replies [] m = refl
  length_replies (b ∷ di) m = ap suc (length_replies di (shifts g b m))

-- ---- a piece, and a whole transfer

-- an answer where no log was lent
abbrev answer_of : Refusal → Machine → ℕ → ℕ → Answer
answer_of r m records written = record { refusal = r; state = m.state; records = records; used = 0; written = written }

-- the same with all lent memory
abbrev pub left : Refusal → Machine → ℕ → ℕ → List ℕ → End
left r m records written out = seen (answer_of r m records written) m.store.cells m.store.cache m.counts out

module _ (g : Geometry) (arr : Array) (m : Machine) (di out : List ℕ) where
  -- the run of records that were written
  abbrev ran_over : List Record → End
  ran_over es = unlogged (shown (ran_of g arr (length out) (parse (written es)) m) out)

  -- read, it is the records that fit
  ran_fitting : (es fit : List Record) (r : Refusal) → T (levels_sound es) → fitting (length out) es ≡ fit → (if ltb (length out) (shifts_in es) then NoRoom else Done) ≡ r
      → shown (did g arr m r fit) out ≡ shown (ran_of g arr (length out) (parse (written es)) m) out
  unfolding ran_of
  ran_fitting es fit r h f e = rw (parse_written es h, f, e)

  -- and where those are done
  done_left : (r : Refusal) (fit : List Record) (bytes : List ℕ) (records n : ℕ) (m₁ : Machine) (out₁ : List ℕ)
      → run g arr m fit ≡ m₁ → bytes_out g arr m fit ≡ bytes → length fit ≡ records → length bytes ≡ n → out₁ ≡ bytes ++ drop n out
      → left r m₁ records n out₁ ≡ unlogged (shown (did g arr m r fit) out)
  done_left r fit bytes records n m₁ out₁ a b c d q = rw (a, b, c, d, q)

  -- together
  ran_left : (es fit : List Record) (r : Refusal) (bytes : List ℕ) (records n : ℕ) (m₁ : Machine) (out₁ : List ℕ)
      → T (levels_sound es) → fitting (length out) es ≡ fit → (if ltb (length out) (shifts_in es) then NoRoom else Done) ≡ r
      → run g arr m fit ≡ m₁ → bytes_out g arr m fit ≡ bytes → length fit ≡ records → length bytes ≡ n → out₁ ≡ bytes ++ drop n out
      → left r m₁ records n out₁ ≡ ran_over es
  ran_left es fit r bytes records n m₁ out₁ h f e a b c d q = done_left r fit bytes records n m₁ out₁ a b c d q ∙ ap unlogged (ran_fitting es fit r h f e)

  -- too little room for some shifts, or enough
  short : (es : List Record) → length out < shifts_in es → (if ltb (length out) (shifts_in es) then NoRoom else Done) ≡ NoRoom
  short es h = rw (lt-ltb (length out) (shifts_in es) h)

  enough : (es : List Record) → shifts_in es ≤ length out → (if ltb (length out) (shifts_in es) then NoRoom else Done) ≡ Done
  enough es h = rw (le-ltb (length out) (shifts_in es) h)

  -- a piece, with room for n of its bytes
  module _ (n : ℕ) (e : n ≡ min (length di) (length out)) (m₁ : Machine) (out₁ : List ℕ) where
    some : length (take n di) ≡ n
    some = length-take-le n di (omega arith)

    replies_some : (m : Machine) → length (replies g (take n di) m) ≡ n
    replies_some m = length_replies g arr (take n di) m ∙ some

    module _ (p : m₁ ≡ fed g (take n di) m) (q : out₁ ≡ replies g (take n di) m ++ drop n out) where
      pub piece_short : n < length di → left NoRoom m₁ n n out₁ ≡ ran_over (shifts_of di)
      piece_short h =
          let k : n ≡ length out = omega arith in
          ran_left (shifts_of di) (shifts_of (take n di)) NoRoom (replies g (take n di) m) n n m₁ out₁
          (levels_alone di)
          (rw k (ap (fitting (length out)) (sym (append-nil (shifts_of di))) ∙ fitting_short (length out) di [] (omega arith)))
          (short (shifts_of di) (omega (arith, shifts_many di)))
          (run_fed g arr (take n di) m ∙ sym p)
          (out_replies g arr (take n di) m)
          (length_shifts (take n di) ∙ some)
          (replies_some m)
          q

      pub piece_whole : length di ≤ n → left Done m₁ n n out₁ ≡ ran_over (shifts_of di)
      piece_whole h =
          ran_left (shifts_of di) (shifts_of (take n di)) Done (replies g (take n di) m) n n m₁ out₁
          (levels_alone di)
          (fitting_all (length out) (shifts_of di) (omega (arith, shifts_many di)) ∙ ap shifts_of (sym (take_all n di h)))
          (enough (shifts_of di) (omega (arith, shifts_many di)))
          (run_fed g arr (take n di) m ∙ sym p)
          (out_replies g arr (take n di) m)
          (length_shifts (take n di) ∙ some)
          (replies_some m)
          q

    -- a whole transfer: the same behind a select, and a deselect behind it
    abbrev mₛ : Machine
    mₛ = over_bus selects m

    module _ (p : m₁ ≡ fed g (take n di) mₛ) (q : out₁ ≡ replies g (take n di) mₛ ++ drop n out) where
      pub transfer_short : n < length di → left NoRoom m₁ (n + 1) n out₁ ≡ ran_over (transfer_of di)
      unfolding step run bytes_out
      transfer_short h =
          let k : n ≡ length out = omega arith in
          ran_left (transfer_of di) (Select ∷ shifts_of (take n di)) NoRoom (replies g (take n di) mₛ) (n + 1) n m₁ out₁
          (levels_transfer di)
          (rw k (transfer_fitting (length out) di (omega arith)))
          (short (transfer_of di) (omega (arith, transfer_shifts di)))
          (run_fed g arr (take n di) mₛ ∙ sym p)
          (out_replies g arr (take n di) mₛ)
          (ap suc (length_shifts (take n di) ∙ some) ∙ sym (add-one n))
          (replies_some mₛ)
          q

      pub transfer_whole : length di ≤ n → (m₂ : Machine) → m₂ ≡ deselects g arr m₁ → left Done m₂ (n + 2) n out₁ ≡ ran_over (transfer_of di)
      unfolding step run bytes_out
      transfer_whole h m₂ d =
          ran_left (transfer_of di) (transfer_of (take n di)) Done (replies g (take n di) mₛ) (n + 2) n m₂ out₁
          (levels_transfer di)
          (fitting_all (length out) (transfer_of di) (omega (arith, transfer_shifts di)) ∙ ap transfer_of (sym (take_all n di h)))
          (enough (transfer_of di) (omega (arith, transfer_shifts di)))
          (run_parts g arr (shifts_of (take n di)) (Deselect ∷ []) mₛ ∙ ap (deselects g arr) (run_fed g arr (take n di) mₛ ∙ sym p) ∙ sym d)
          (out_parts g arr (shifts_of (take n di)) (Deselect ∷ []) mₛ ∙ append-nil (bytes_out g arr mₛ (shifts_of (take n di))) ∙ out_replies g arr (take n di) mₛ)
          (ap suc (length-append (shifts_of (take n di)) (Deselect ∷ []) ∙ rw (length_shifts (take n di), some) (add-one n)) ∙ two)
          (replies_some mₛ)
          q
        where
          two : suc (suc n) ≡ n + 2
          two = omega arith

-- ---- the same of what the code has: the checks passed, and so many bytes exchanged

module _ (g : Geometry) (arr : Array) (m : Machine) (di out : List ℕ) (k : Refusal) (ck : k ≡ checked_as g m) (ok : passed k ≡ true)
    (n : ℕ) (e : n ≡ min (length di) (length out)) (s₁ : State) (cache₁ out₁ : List ℕ) where
  -- the whole run
  abbrev ran : List Record → End
  ran es = unlogged (shown (run_of g arr (length out) (written es) m) out)

  as_run : (es : List Record) (x : End) → x ≡ ran_over g arr m di out es → x ≡ ran es
  as_run es x h = h ∙ ap unlogged (run_ran g arr out m (length out) (written es) k ck ok (shown (ran_of g arr (length out) (parse (written es)) m) out) refl)

  -- the machine then
  abbrev m₁ : Machine
  m₁ = on_cache s₁ cache₁ m

  -- the bytes that were lent
  lent : take (n - 0) di ≡ take n di
  lent = let z : n - 0 ≡ n = omega arith in ap (λ (i : ℕ). take i di) z

  -- what they put out stands before the rest
  lies_behind : (l : List ℕ) (x : List ℕ) → x ≡ l ++ drop (length (take n di)) out → x ≡ l ++ drop n out
  lies_behind l x h = h ∙ ap (λ (i : ℕ). l ++ drop i out) (some g arr m di out n e m₁ out₁)

  module _ (x : Exchanged g m.state m.store.cache (take (n - 0) di) out s₁ cache₁ out₁) where
    y : Exchanged g m.state m.store.cache (take n di) out s₁ cache₁ out₁
    y = rw lent at x

    pub piece_stops : n < length di → left NoRoom m₁ n n out₁ ≡ ran (shifts_of di)
    piece_stops h = as_run (shifts_of di) (left NoRoom m₁ n n out₁) (piece_short g arr m di out n e m₁ out₁ (y.after m) (lies_behind (replies g (take n di) m) out₁ (y.lies m)) h)

    pub piece_ends : length di ≤ n → left Done m₁ n n out₁ ≡ ran (shifts_of di)
    piece_ends h = as_run (shifts_of di) (left Done m₁ n n out₁) (piece_whole g arr m di out n e m₁ out₁ (y.after m) (lies_behind (replies g (take n di) m) out₁ (y.lies m)) h)

  module _ (x : Exchanged g (bus_in (selects m.state.bus) m.state) m.store.cache (take (n - 0) di) out s₁ cache₁ out₁) where
    z : Exchanged g (bus_in (selects m.state.bus) m.state) m.store.cache (take n di) out s₁ cache₁ out₁
    z = rw lent at x

    pub transfer_stops : n < length di → left NoRoom m₁ (n + 1) n out₁ ≡ ran (transfer_of di)
    transfer_stops h = as_run (transfer_of di) (left NoRoom m₁ (n + 1) n out₁) (transfer_short g arr m di out n e m₁ out₁ (z.after m) (lies_behind (replies g (take n di) (over_bus selects m)) out₁ (z.lies m)) h)

    -- and then chip select rises, which leaves the output alone
    pub transfer_ends : length di ≤ n → (m₂ : Machine) (out₂ : List ℕ) → m₂ ≡ step g arr m₁ Deselect → out₂ ≡ over out₁ n [] → left Done m₂ (n + 2) n out₂ ≡ ran (transfer_of di)
    unfolding step
    transfer_ends h m₂ out₂ d o =
        rw (o ∙ sym (over_none out₁ n))
        (as_run (transfer_of di) (left Done m₂ (n + 2) n out₁)
        (transfer_whole g arr m di out n e m₁ out₁ (z.after m) (lies_behind (replies g (take n di) (over_bus selects m)) out₁ (z.lies m)) h m₂ d))

-- ---- bytes leave a machine sound

fed_keeps : (g : Geometry) → Sound g → (di : List ℕ) → Bytes di → (m : Machine) → SoundMachine g m → SoundMachine g (fed g di m)
unfolding fed step
fed_keeps g s [] b m h = h
fed_keeps g s (x ∷ di) b m h = fed_keeps g s di (λ i. b (suc i)) (shifts g x m) (step_keeps g s m (Shift x) (b 0) h)

pub take_bytes : (n : ℕ) (l : List ℕ) → Bytes l → Bytes (take n l)
take_bytes zero l h i = omega arith
take_bytes (suc n) [] h i = h i
take_bytes (suc n) (x ∷ l) h zero = h 0
take_bytes (suc n) (x ∷ l) h (suc i) = take_bytes n l (λ j. h (suc j)) i

-- behind a select
pub selected_sound : (g : Geometry) → Sound g → (m : Machine) (n : ℕ) (di out : List ℕ) → Bytes di → (s₁ : State) (cache₁ out₁ : List ℕ) → SoundMachine g m
    → Exchanged g (bus_in (selects m.state.bus) m.state) m.store.cache (take n di) out s₁ cache₁ out₁ → SoundMachine g (on_cache s₁ cache₁ m)
unfolding step
selected_sound g s m n di out b s₁ cache₁ out₁ h x = rw (x.after m) (fed_keeps g s (take n di) (take_bytes n di b) (over_bus selects m) (step_keeps g s m Select tt h))
