-- A cache read round the page: what one byte does, and so all of them; a whole transfer; and loads, byte by byte.
use mathlib.Core.Bool.{Bool, true, false, cond, ◌&&◌, ◌||◌}
use mathlib.Core.List.{List, [], ◌∷◌, ◌++◌, map}
use mathlib.Core.Path.{◌≡◌, refl, sym, ap, ◌∙◌}
use Prim.Native.Nat.{ℕ, zero, suc, ◌+◌, ◌-◌, ◌%◌, ◌≤◌, ◌<◌, min}
use native.Mathlib.Nat.{mod-eq_of_lt, mod_self, mod-lt, mod-add-mod}
use native.Mathlib.Omega.{arith}
use lib.Dec.{ltb, leb, eqb}
use lib.ListN.{length, get_or, set, length-set, get_or-eq_default}
use lib.Seq.{get_or-set_same, get_or-set_other}
use borrow.Author.Tests.{eqb-true, eqb-false, ltb-true, ltb-false, leb-true, lt-ltb, le-ltb, le-leb, lt-leb, ne_eqb}
use Rattle.part.specs.Part.{page, Sound}
use Rattle.part.specs.declared.Column.{Column}
use Rattle.part.specs.declared.Geometry.{Geometry}
use Rattle.part.proofs.Choice.{T_true, true_T, and_l, and_r}
use Rattle.buslog.specs.declared.Record.TheVariants.{Shift, Deselect}
use Rattle.registers.specs.Registers.{oip}
use Rattle.codes.specs.Codes.{byte_of, instruction_of}
use Rattle.columns.specs.Columns.{next, next_read, column_of}
use Rattle.transfer.specs.Transfer.{is, heard, selects, ends, with_transfer, shifted_in, cached}
use Rattle.transfer.specs.declared.Bus.{Bus}
use Rattle.codes.specs.declared.Instruction.TheVariants.{ReadCache}
use Rattle.device.specs.Machine.{Machine, over_bus}
use Rattle.device.specs.Work.{Array}
use Rattle.device.specs.Instructions.{shifts, answer, fed, replies, acted, deselects}
use Rattle.device.specs.Step.{step, run}
use Rattle.cases.specs.Cases.{counting_from}
use Rattle.cases.specs.RoundThePage.{in_read, answer_at, answers_from, column_then, further, PageFits, ReadsRound, ReadsOnly, ReadSent, in_load, LoadsDrop, round_cases, AllRoundCases}

-- ---- columns

abbrev at : ℕ → Column
at n = record { 0 = n }

module _ (g : Geometry) (s : Sound g) where
  some_page : 0 < page g
  some_page = omega (arith, s.some_bytes)

  -- one byte on
  then_one : (c : Column) → next_read (page g) c ≡ at (column_then g c.0 1)
  then_one c = go (ltb c.0 (page g)) (eqb (c.0 + 1) (page g)) refl refl
    where
      go : (a b : Bool) → ltb c.0 (page g) ≡ a → eqb (c.0 + 1) (page g) ≡ b → cond b (at 0) (next c) ≡ at (cond a ((c.0 + 1) % page g) (min 4096 (c.0 + 1)))
      go true true p q = ap at (rw (eqb-true (c.0 + 1) (page g) q) (sym (mod_self (page g))))
      go true false p q =
          let h : c.0 + 1 < page g = omega (arith, ltb-true c.0 (page g) p, eqb-false (c.0 + 1) (page g) q) in
          ap at (rw (mod-eq_of_lt h) (omega (arith, h, s.small_page)))
      go false true p q = absurd (omega (arith, ltb-false c.0 (page g) p, eqb-true (c.0 + 1) (page g) q))
      go false false p q = refl

  -- it is past the page where it was
  then_below : (c : ℕ) → ltb (column_then g c 1) (page g) ≡ ltb c (page g)
  then_below c = go (ltb c (page g)) refl
    where
      go : (a : Bool) → ltb c (page g) ≡ a → ltb (cond a ((c + 1) % page g) (min 4096 (c + 1))) (page g) ≡ a
      go true p = lt-ltb ((c + 1) % page g) (page g) (mod-lt (c + 1) some_page)
      go false p = le-ltb (min 4096 (c + 1)) (page g) (omega (arith, ltb-false c (page g) p, s.small_page))

  -- and then n more
  then_more : (c n : ℕ) → column_then g (column_then g c 1) n ≡ column_then g c (suc n)
  then_more c n = rw (then_below c) (go (ltb c (page g)) refl)
    where
      go : (a : Bool) → ltb c (page g) ≡ a
          → cond a ((cond a ((c + 1) % page g) (min 4096 (c + 1)) + n) % page g) (min 4096 (cond a ((c + 1) % page g) (min 4096 (c + 1)) + n))
          ≡ cond a ((c + suc n) % page g) (min 4096 (c + suc n))
      go true p = mod-add-mod (c + 1) (page g) n ∙ ap (λ (k : ℕ). k % page g) (omega arith)
      go false p = omega arith

  -- answer i from there is answer i + 1 from here
  answer_on : (cache : List ℕ) (c i : ℕ) → answer_at g cache (column_then g c 1) i ≡ answer_at g cache c (suc i)
  answer_on cache c i = rw (then_below c) (go (ltb c (page g)))
    where
      go : (a : Bool) → cond a (get_or cache ((cond a ((c + 1) % page g) (min 4096 (c + 1)) + i) % page g) 0xFF) 0xFF ≡ cond a (get_or cache ((c + suc i) % page g) 0xFF) 0xFF
      go true = ap (λ (k : ℕ). get_or cache k 0xFF) (mod-add-mod (c + 1) (page g) i ∙ ap (λ (k : ℕ). k % page g) (omega arith))
      go false = refl

  -- and so all of them
  answers_on : (cache : List ℕ) (c n k : ℕ) → map (answer_at g cache c) (counting_from (suc k) n) ≡ map (answer_at g cache (column_then g c 1)) (counting_from k n)
  answers_on cache c zero k = refl
  answers_on cache c (suc n) k = rw (← (answer_on cache c k), answers_on cache c n (suc k))

  -- the first of them is the cache byte there
  answer_here : (cache : List ℕ) (c : ℕ) → length cache ≡ page g → get_or cache c 0xFF ≡ answer_at g cache c 0
  answer_here cache c l = go (ltb c (page g)) refl
    where
      go : (a : Bool) → ltb c (page g) ≡ a → get_or cache c 0xFF ≡ cond a (get_or cache ((c + 0) % page g) 0xFF) 0xFF
      go true p = let h : c + 0 < page g = omega (arith, ltb-true c (page g) p) in let e : c + 0 ≡ c = omega arith in rw (mod-eq_of_lt h, e)
      go false p = get_or-eq_default cache 0xFF (omega (arith, l, ltb-false c (page g) p))

-- ---- one byte of a cache read

module _ (g : Geometry) (m : Machine) (f : PageFits g m) (r : in_read m.state.bus ≡ true) where
  abbrev x : Bus
  x = m.state.bus

  abbrev c : ℕ
  c = x.transfer.column.0

  abbrev moves : Machine
  moves = further 1 (column_then g c 1) m

  listens : heard x ≡ true
  listens = T_true _ (and_l (heard x) (is x.transfer 0x03) (and_l (heard x && is x.transfer 0x03) (leb 4 x.transfer.count) (true_T _ r)))

  cache_read : byte_of x.transfer.instruction ≡ 0x03
  cache_read = eqb-true _ _ (T_true _ (and_r (heard x) (is x.transfer 0x03) (and_l (heard x && is x.transfer 0x03) (leb 4 x.transfer.count) (true_T _ r))))

  four : 4 ≤ x.transfer.count
  four = leb-true _ _ (T_true _ (and_r (heard x && is x.transfer 0x03) (leb 4 x.transfer.count) (true_T _ r)))

  not_yet : (n : ℕ) → n < 4 → eqb x.transfer.count n ≡ false
  not_yet n h = ne_eqb x.transfer.count n (λ (e : x.transfer.count ≡ n). omega (arith, four, h, e))

  read_next : (b : ℕ) → shifts g b m ≡ further 1 (next_read (page g) x.transfer.column).0 m
  unfolding shifts shifted_in cached
  read_next b =
      rw (listens, cache_read, not_yet 0 (omega arith), not_yet 1 (omega arith), not_yet 2 (omega arith), not_yet 3 (omega arith), le-leb 4 x.transfer.count four)

  read_one : (b : ℕ) → shifts g b m ≡ moves
  read_one b = read_next b ∙ ap (λ (k : Column). further 1 k.0 m) (then_one g f.0 x.transfer.column)

  read_answer : answer g m.state m.store.cache ≡ get_or m.store.cache c 0xFF
  unfolding answer
  read_answer = rw (listens, cache_read, not_yet 0 (omega arith), le-leb 4 x.transfer.count four)

  still_reads : in_read moves.state.bus ≡ true
  still_reads = rw (listens, cache_read) (le-leb 4 (min 5 (x.transfer.count + 1)) (omega (arith, four)))

-- ---- all of them

pub reads_round : ReadsRound
unfolding replies
reads_round g m [] f r = refl
reads_round g m (b ∷ di) f r =
    rw (read_one g m f r b, read_answer g m f r, reads_round g (moves g m f r) di f (still_reads g m f r), answers_on g f.0 m.store.cache (c g m f r) (length di) 0)
    (ap (λ (a : ℕ). a ∷ answers_from g m.store.cache (column_then g (c g m f r) 1) (length di)) (answer_here g f.0 m.store.cache (c g m f r) f.1))

-- the count of bytes and the next column, with a byte more before n others
further_more : (g : Geometry) → Sound g → (m : Machine) (n : ℕ) →
    let c = m.state.bus.transfer.column.0 in
    further n (column_then g (column_then g c 1) n) (further 1 (column_then g c 1) m) ≡ further (suc n) (column_then g c (suc n)) m
further_more g s m n =
    let k = m.state.bus.transfer.count in
    let e : min 5 (min 5 (k + 1) + n) ≡ min 5 (k + suc n) = omega arith in
    rw (then_more g s m.state.bus.transfer.column.0 n, e)

pub reads_only : ReadsOnly
unfolding fed
reads_only g m b [] f r = read_one g m f r b
reads_only g m b (b' ∷ di) f r = rw (read_one g m f r b) (reads_only g (moves g m f r) b' di f (still_reads g m f r) ∙ further_more g f.0 m (suc (length di)))

-- ---- a whole cache read

-- records of bytes are the bytes, one after another
run_shifts : (g : Geometry) (arr : Array) (di : List ℕ) (m : Machine) → run g arr m (map Shift di ++ Deselect ∷ []) ≡ deselects g arr (fed g di m)
unfolding run step fed
run_shifts g arr [] m = refl
run_shifts g arr (b ∷ di) m = run_shifts g arr di (shifts g b m)

-- either code, heard by an idle array
read_heard : (k : ℕ) → (eqb k 0x03 || eqb k 0x0B) ≡ true → instruction_of k ≡ ReadCache
unfolding instruction_of
read_heard k e = go (eqb k 0x03) refl e
  where
    go : (a : Bool) → eqb k 0x03 ≡ a → (a || eqb k 0x0B) ≡ true → instruction_of k ≡ ReadCache
    go true p q = rw (eqb-true k 0x03 p)
    go false p q = rw (eqb-true k 0x0B q)

module _ (g : Geometry) (m : Machine) (k high low idle : ℕ) (off : m.state.bus.transfer.selected ≡ false) (o : oip m.state.regs.c0 ≡ false)
    (e : (eqb k 0x03 || eqb k 0x0B) ≡ true) where
  -- the transfer with so many of its bytes shifted
  abbrev part : ℕ → ℕ → ℕ → ℕ → Column → Machine
  part n a b d c = over_bus (with_transfer (record { selected = true; count = n; instruction = ReadCache; first = a; second = b; third = d; column = c })) m

  abbrev opened : Machine
  opened = part 4 high low idle (column_of high low)

  -- chip select falls, and the code comes
  code : shifts g k (over_bus selects m) ≡ part 1 0 0 0 (at 0)
  unfolding shifts shifted_in cached selects
  code = rw (off, o, read_heard k e)

  code_out : answer g (over_bus selects m).state m.store.cache ≡ 0xFF
  unfolding answer selects
  code_out = rw off

  -- two bytes of column and an idle one
  rest : shifts g idle (shifts g low (shifts g high (part 1 0 0 0 (at 0)))) ≡ opened
  unfolding shifts shifted_in cached
  rest = refl

  rest_out : (di : List ℕ) → replies g (high ∷ low ∷ idle ∷ di) (part 1 0 0 0 (at 0)) ≡ 0xFF ∷ 0xFF ∷ 0xFF ∷ replies g di opened
  unfolding replies answer shifts shifted_in cached
  rest_out di = refl

  opens : (di : List ℕ) → fed g (k ∷ high ∷ low ∷ idle ∷ di) (over_bus selects m) ≡ fed g di opened
  unfolding fed
  opens di = ap (λ (y : Machine). fed g di (shifts g idle (shifts g low (shifts g high y)))) code ∙ ap (fed g di) rest

  opens_out : (di : List ℕ) → replies g (k ∷ high ∷ low ∷ idle ∷ di) (over_bus selects m) ≡ 0xFF ∷ 0xFF ∷ 0xFF ∷ 0xFF ∷ replies g di opened
  unfolding replies
  opens_out di =
      ap (λ (a : ℕ). a ∷ replies g (high ∷ low ∷ idle ∷ di) (shifts g k (over_bus selects m))) code_out
      ∙ ap (λ (y : Machine). 0xFF ∷ replies g (high ∷ low ∷ idle ∷ di) y) code
      ∙ ap (λ (l : List ℕ). 0xFF ∷ l) (rest_out di)

  -- chip select rises, at whatever count and column the answers have left
  closes : (arr : Array) (n c : ℕ) → deselects g arr (further n c opened) ≡ over_bus ends m
  unfolding deselects acted
  closes arr n c = let z : eqb (min 5 (4 + n)) 0 ≡ false = ne_eqb (min 5 (4 + n)) 0 (λ (q : min 5 (4 + n) ≡ 0). omega (arith, q)) in rw z

  ends_so : (arr : Array) (di : List ℕ) → PageFits g m → deselects g arr (fed g di opened) ≡ over_bus ends m
  unfolding fed
  ends_so arr [] f = closes arr 0 (column_of high low).0
  ends_so arr (b ∷ di) f = rw (reads_only g opened b di f refl) (closes arr (suc (length di)) (column_then g (column_of high low).0 (suc (length di))))

pub read_sent : ReadSent
unfolding run step
read_sent g arr m k high low idle di f off o e = (
  opens_out g m k high low idle off o e di ∙ ap (λ (l : List ℕ). 0xFF ∷ 0xFF ∷ 0xFF ∷ 0xFF ∷ l) (reads_round g (opened g m k high low idle off o e) di f refl),
  run_shifts g arr (k ∷ high ∷ low ∷ idle ∷ di) (over_bus selects m)
      ∙ ap (deselects g arr) (opens g m k high low idle off o e di)
      ∙ ends_so g m k high low idle off o e arr di f,
)

-- ---- loads

module _ (g : Geometry) (m : Machine) (r : in_load m.state.bus ≡ true) where
  abbrev y : Bus
  y = m.state.bus

  abbrev d : ℕ
  d = y.transfer.column.0

  hears : heard y ≡ true
  hears = T_true _ (and_l (heard y) (is y.transfer 0x02 || is y.transfer 0x84) (and_l (heard y && (is y.transfer 0x02 || is y.transfer 0x84)) (leb 3 y.transfer.count) (true_T _ r)))

  loads : (is y.transfer 0x02 || is y.transfer 0x84) ≡ true
  loads = T_true _ (and_r (heard y) (is y.transfer 0x02 || is y.transfer 0x84) (and_l (heard y && (is y.transfer 0x02 || is y.transfer 0x84)) (leb 3 y.transfer.count) (true_T _ r)))

  three : 3 ≤ y.transfer.count
  three = leb-true _ _ (T_true _ (and_r (heard y && (is y.transfer 0x02 || is y.transfer 0x84)) (leb 3 y.transfer.count) (true_T _ r)))

  behind : (n : ℕ) → n < 3 → eqb y.transfer.count n ≡ false
  behind n h = ne_eqb y.transfer.count n (λ (e : y.transfer.count ≡ n). omega (arith, three, h, e))

  -- by either code
  by_code : {P : Type 0} → (byte_of y.transfer.instruction ≡ 0x02 → P) → (byte_of y.transfer.instruction ≡ 0x84 → P) → P
  by_code {P} a b = go (is y.transfer 0x02) refl loads
    where
      go : (t : Bool) → is y.transfer 0x02 ≡ t → (t || is y.transfer 0x84) ≡ true → P
      go true p q = a (eqb-true (byte_of y.transfer.instruction) 0x02 p)
      go false p q = b (eqb-true (byte_of y.transfer.instruction) 0x84 q)

  -- a byte is stored where there is a place for it, and the column moves on
  load_cache : (b : ℕ) → (shifts g b m).store.cache ≡ set m.store.cache d b
  unfolding shifts shifted_in cached
  load_cache b = by_code (λ e. rw (hears, e, behind 0 (omega arith), behind 2 (omega arith), le-leb 3 y.transfer.count three))
      (λ e. rw (hears, e, behind 0 (omega arith), le-leb 3 y.transfer.count three))

  load_column : (b : ℕ) → (shifts g b m).state.bus.transfer.column.0 ≡ min 4096 (d + 1)
  unfolding shifts shifted_in cached
  load_column b = by_code (λ e. rw (hears, e, behind 0 (omega arith), behind 2 (omega arith), le-leb 3 y.transfer.count three))
      (λ e. rw (hears, e, behind 0 (omega arith), behind 2 (omega arith), le-leb 3 y.transfer.count three))

  still_stores : (b : ℕ) → in_load (shifts g b m).state.bus ≡ true
  unfolding shifts shifted_in cached
  still_stores b =
      let z : leb 3 (min 5 (y.transfer.count + 1)) ≡ true = le-leb 3 (min 5 (y.transfer.count + 1)) (omega (arith, three)) in
      by_code (λ e. rw (hears, behind 0 (omega arith), e, z)) (λ e. rw (hears, behind 0 (omega arith), e, z))

-- a byte at column c and then data from the next column on is data from c on
module _ (cache : List ℕ) (c i b : ℕ) (di : List ℕ) (inside : i < length cache) (small : length cache ≤ 4096) where
  abbrev c' : ℕ
  c' = min 4096 (c + 1)

  abbrev LaidOn : Type 0
  LaidOn =
      cond (leb c' i && ltb i (c' + length di)) (get_or di (i - c') 0) (get_or (set cache c b) i 0)
      ≡ cond (leb c i && ltb i (c + suc (length di))) (get_or (b ∷ di) (i - c) 0) (get_or cache i 0)

  -- before the column, at it, behind it
  laid_before : i < c → LaidOn
  laid_before h =
      rw (lt-leb c' i (omega (arith, h, inside, small)), lt-leb c i h)
      (get_or-set_other cache c i b 0 (λ (e : i ≡ c). omega (arith, e, h)))

  laid_at : i ≡ c → LaidOn
  laid_at e =
      let z : i - c ≡ 0 = omega (arith, e) in
      rw (lt-leb c' i (omega (arith, e, inside, small)), le-leb c i (omega (arith, e)), lt-ltb i (c + suc (length di)) (omega (arith, e)), z)
      (rw (← e) (get_or-set_same cache i b 0 inside))

  laid_behind : c < i → LaidOn
  laid_behind h =
      let z : i - c ≡ suc (i - (c + 1)) = omega (arith, h) in
      let n : c' ≡ c + 1 = omega (arith, h, inside, small) in
      let q : c + suc (length di) ≡ c + 1 + length di = omega arith in
      rw (n, z, q, le-leb (c + 1) i (omega (arith, h)), le-leb c i (omega (arith, h)), get_or-set_other cache c i b 0 (λ (e : i ≡ c). omega (arith, e, h)))

  laid_on : LaidOn
  laid_on = go (ltb i c) (eqb i c) refl refl
    where
      go : (a e : Bool) → ltb i c ≡ a → eqb i c ≡ e → LaidOn
      go true e p q = laid_before (ltb-true i c p)
      go false true p q = laid_at (eqb-true i c q)
      go false false p q = laid_behind (omega (arith, ltb-false i c p, eqb-false i c q))

-- no data is laid nowhere
laid_none : (cache : List ℕ) (c i x : ℕ) → get_or cache i 0 ≡ cond (leb c i && ltb i (c + 0)) x (get_or cache i 0)
laid_none cache c i x = go (leb c i) refl
  where
    go : (a : Bool) → leb c i ≡ a → get_or cache i 0 ≡ cond (a && ltb i (c + 0)) x (get_or cache i 0)
    go true p = rw (le-ltb i (c + 0) (omega (arith, leb-true c i p)))
    go false p = refl

pub loads_drop : LoadsDrop
unfolding fed
loads_drop g m [] i f r l = laid_none m.store.cache m.state.bus.transfer.column.0 i 0
loads_drop g m (b ∷ di) i f r l =
    let cache = m.store.cache in
    let c = m.state.bus.transfer.column.0 in
    let long : length (shifts g b m).store.cache ≡ page g = rw (load_cache g m r b) (length-set cache c b ∙ f.1) in
    loads_drop g (shifts g b m) di i (f.0, long) (still_stores g m r b) l
    ∙ rw (load_column g m r b, load_cache g m r b) (laid_on cache c i b di (omega (arith, l, f.1)) (omega (arith, f.1, f.0.small_page)))

-- ---- the cases

pub all_round_cases : AllRoundCases
unfolding round_cases instruction_of selects shifted_in cached shifts answer fed replies
all_round_cases = refl
