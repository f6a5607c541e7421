-- Document 02, item 6: a cache read goes on at column 0 behind the page's last column; loads do not. For every part and every machine; and
-- cases on the bench part, one table.
use Rattle.std.specs.Prelude.{Bool, false, true, ◌&&◌, ◌||◌, List, [], ◌∷◌, ◌++◌, map, ◌≡◌, ℕ, ◌+◌, ◌-◌, ◌%◌, ◌<◌, min, ltb, leb, eqb, length, get_or, replicate, if◌then◌else◌}
use Rattle.part.specs.Part.{bench, page, Sound}
use Rattle.part.specs.declared.Geometry.{Geometry}
use Rattle.part.specs.declared.Stepping.TheVariants.{First}
use Rattle.registers.specs.Registers.{oip}
use Rattle.columns.specs.Columns.{column_of}
use Rattle.transfer.specs.Transfer.{is, ends, heard, selects, with_transfer}
use Rattle.transfer.specs.declared.Bus.{Bus}
use Rattle.codes.specs.declared.Instruction.TheVariants.{ReadCache}
use Rattle.device.specs.Machine.{Machine, machine, over_bus}
use Rattle.device.specs.Work.{Array}
use Rattle.device.specs.Instructions.{fed, replies}
use Rattle.device.specs.Step.{run}
use Rattle.cases.specs.Cases.{Case, ◌·◌⇒◌, counting_from, idle_at, send, telling_from, wrong}

-- ---- for every part and every machine

-- a cache read that answers: it is heard, and its column and the idle byte have come
abbrev pub in_read : Bus → Bool
in_read x = heard x && is x.transfer 0x03 && leb 4 x.transfer.count

-- answer i of a read from column c on: the cache byte at (c + i) mod P, or FFh if c is past the page
abbrev pub answer_at : Geometry → List ℕ → ℕ → ℕ → ℕ
answer_at g cache c i = if ltb c (page g) then get_or cache ((c + i) % page g) 0xFF else 0xFF

-- the first n of them
abbrev pub answers_from : Geometry → List ℕ → ℕ → ℕ → List ℕ
answers_from g cache c n = map (answer_at g cache c) (counting_from 0 n)

-- the column that comes next, after n answers from column c on
abbrev pub column_then : Geometry → ℕ → ℕ → ℕ
column_then g c n = if ltb c (page g) then (c + n) % page g else min 4096 (c + n)

-- n bytes on in a transfer, at a column: nothing else of the machine has changed
abbrev pub further : ℕ → ℕ → Machine → Machine
further n c m =
    over_bus
    (λ x.
    let t = x.transfer in
    with_transfer
    (record {
      selected = t.selected;
      count = min 5 (t.count + n);
      instruction = t.instruction;
      first = t.first;
      second = t.second;
      third = t.third;
      column = record { 0 = c };
    })
    x)
    m

-- a sound part, and a cache register as long as its page
abbrev pub PageFits : Geometry → Machine → Type 0
PageFits g m = Sound g × (length m.store.cache ≡ page g)

-- whatever bytes are shifted in during a cache read, however many: they are answered so
abbrev pub ReadsRound : Type 0
ReadsRound =
    (g : Geometry) (m : Machine) (di : List ℕ) → PageFits g m → in_read m.state.bus ≡ true →
    replies g di m ≡ answers_from g m.store.cache m.state.bus.transfer.column.0 (length di)

-- and with one of them or more only the next column and the count of bytes move
abbrev pub ReadsOnly : Type 0
ReadsOnly =
    (g : Geometry) (m : Machine) (b : ℕ) (di : List ℕ) → PageFits g m → in_read m.state.bus ≡ true →
    let n = length (b ∷ di) in
    fed g (b ∷ di) m ≡ further n (column_then g m.state.bus.transfer.column.0 n) m

-- a whole cache read, by either code, sent to an idle chip that is not selected: its first four bytes are answered by FFh, the others so;
-- and nothing of the machine has changed but the end of the transfer
abbrev pub ReadSent : Type 0
ReadSent =
    (g : Geometry) (arr : Array) (m : Machine) (k high low idle : ℕ) (di : List ℕ) → PageFits g m
    → m.state.bus.transfer.selected ≡ false → oip m.state.regs.c0 ≡ false → (eqb k 0x03 || eqb k 0x0B) ≡ true →
    let bytes = k ∷ high ∷ low ∷ idle ∷ di in
    (replies g bytes (over_bus selects m) ≡ replicate 4 0xFF ++ answers_from g m.store.cache (column_of high low).0 (length di))
    × (run g arr m (send bytes) ≡ over_bus ends m)

-- a load that stores: it is heard, and its column has come
abbrev pub in_load : Bus → Bool
in_load x = heard x && (is x.transfer 0x02 || is x.transfer 0x84) && leb 3 x.transfer.count

-- loads are as they were: byte i of the page is the data's where the data reaches it from the column on, and else what it was; what comes
-- past the page is stored nowhere
abbrev pub LoadsDrop : Type 0
LoadsDrop =
    (g : Geometry) (m : Machine) (di : List ℕ) (i : ℕ) → PageFits g m → in_load m.state.bus ≡ true → i < page g →
    let c = m.state.bus.transfer.column.0 in
    get_or (fed g di m).store.cache i 0 ≡ (if leb c i && ltb i (c + length di) then get_or di (i - c) 0 else get_or m.store.cache i 0)

-- ---- cases

-- an idle part with a cache register as given; no case needs its cells or counts
abbrev pub idle_over : List ℕ → Machine
idle_over cache = machine (idle_at 0 0) [] cache []

-- what a transfer answers, and the cache register that it leaves
abbrev pub answers_to : Geometry → List ℕ → List ℕ → List ℕ
answers_to g cache bytes = replies g bytes (over_bus selects (idle_over cache))

abbrev pub cache_after : List ℕ → List ℕ → List ℕ
cache_after cache bytes = (fed bench bytes (over_bus selects (idle_over cache))).store.cache

-- a state handed in amid a cache read, at a column
abbrev pub amid : ℕ → List ℕ → Machine
amid c cache =
    over_bus
    (with_transfer (record { selected = true; count = 5; instruction = ReadCache; first = 0; second = 0; third = 0; column = record { 0 = c } }))
    (idle_over cache)

-- parts with the shortest and the longest page
abbrev pub shortest : Geometry
shortest = record { main = 1; spare = 0; pages = 1; blocks = 1; id0 = 0; id1 = 0; stepping = First }

abbrev pub longest : Geometry
longest = record { main = 4000; spare = 96; pages = 1; blocks = 1; id0 = 0; id1 = 0; stepping = First }

-- a bench page whose bytes count its columns
abbrev pub numbered : List ℕ
numbered = telling_from 0 20

-- 1: from column 18 by 03h: 18, 19, 0, 1, 2. 2: by 0Bh the same. 3: a page and no more, then two pages and one byte. 4: from column 20, and
-- from 4,095, FFh throughout. 5: a state handed in at column 19, 20 and 4,096. 6: a page of one byte. 7: a page of 4,096. 8: a load from
-- column 18 stores two bytes and drops two, by 02h and by 84h
unfoldable pub round_cases : List Case
round_cases =
    1 · answers_to bench numbered (0x03 ∷ 0 ∷ 18 ∷ 0 ∷ replicate 5 0) ⇒ (replicate 4 0xFF ++ 18 ∷ 19 ∷ 0 ∷ 1 ∷ 2 ∷ [])
    ∷ 2 · answers_to bench numbered (0x0B ∷ 0xF0 ∷ 18 ∷ 0 ∷ replicate 5 0) ⇒ (replicate 4 0xFF ++ 18 ∷ 19 ∷ 0 ∷ 1 ∷ 2 ∷ [])
    ∷ 3 · (answers_to bench numbered (0x03 ∷ replicate 23 0) ++ answers_to bench numbered (0x03 ∷ replicate 44 0))
    ⇒ (replicate 4 0xFF ++ numbered ++ replicate 4 0xFF ++ numbered ++ numbered ++ 0 ∷ [])
    ∷ 4 · (answers_to bench numbered (0x03 ∷ 0 ∷ 20 ∷ 0 ∷ replicate 22 0) ++ answers_to bench numbered (0x03 ∷ 0x0F ∷ 0xFF ∷ 0 ∷ replicate 3 0)) ⇒ replicate 33 0xFF
    ∷ 5 · (replies bench (0 ∷ 0 ∷ []) (amid 19 numbered) ++ replies bench (0 ∷ 0 ∷ []) (amid 20 numbered) ++ replies bench (0 ∷ 0 ∷ []) (amid 4096 numbered))
    ⇒ (19 ∷ 0 ∷ replicate 4 0xFF)
    ∷ 6 · answers_to shortest (7 ∷ []) (0x03 ∷ replicate 6 0) ⇒ (replicate 4 0xFF ++ replicate 3 7)
    ∷ 7 · (answers_to longest (5 ∷ replicate 4094 6 ++ 7 ∷ []) (0x03 ∷ 0x0F ∷ 0xFF ∷ 0 ∷ replicate 3 0)
    ++ replies longest (0 ∷ 0 ∷ []) (amid 4096 (replicate 4096 6)))
    ⇒ (replicate 4 0xFF ++ 7 ∷ 5 ∷ 6 ∷ replicate 2 0xFF)
    ∷ 8 · (cache_after numbered (0x02 ∷ 0 ∷ 18 ∷ 0xA ∷ 0xB ∷ 0xC ∷ 0xD ∷ []) ++ cache_after numbered (0x84 ∷ 0 ∷ 18 ∷ 0xA ∷ 0xB ∷ 0xC ∷ 0xD ∷ []))
    ⇒ (replicate 18 0xFF ++ 0xA ∷ 0xB ∷ telling_from 0 18 ++ 0xA ∷ 0xB ∷ [])
    ∷ []

-- each is seen as it says
abbrev pub AllRoundCases : Type 0
AllRoundCases = wrong round_cases ≡ []
