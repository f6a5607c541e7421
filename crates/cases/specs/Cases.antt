-- Document 01, "Cases to be proved": one table, and one statement over it.
use Rattle.std.specs.Prelude.{Bool, true, false, cond, ◌&&◌, List, [], ◌∷◌, ◌++◌, map, ◌≡◌, ℕ, zero, suc, ◌%◌, eqb, take, replicate, set}
use Rattle.part.specs.Part.{bench, fm25s005bi3}
use Rattle.part.specs.Protection.{protects}
use Rattle.part.specs.declared.Geometry.{Geometry}
use Rattle.buslog.specs.declared.Record.{Record}
use Rattle.buslog.specs.declared.Record.TheVariants.{Select, Shift, Deselect, Units, Power}
use Rattle.transfer.specs.Transfer.{fresh}
use Rattle.array.specs.Jobs.{with_cache}
use Rattle.array.specs.declared.Work.TheVariants.{Idle}
use Rattle.device.specs.declared.State.{State}
use Rattle.device.specs.Machine.{Machine, machine, over_store}
use Rattle.device.specs.Work.{unitwise}
use Rattle.device.specs.Step.{run}

-- the state of an idle part, WP# high: A0h and C0h as given
abbrev pub idle_at : ℕ → ℕ → State
idle_at a c = record {
  regs = record { a0 = a; b0 = 0x10; c0 = c; d0 = 0x40 };
  bus = record { pins = record { wp = true }; transfer = fresh false };
  work = Idle;
}

-- an idle bench part: the cells as given, the cache FFh, counts 0
abbrev pub idle_with : ℕ → ℕ → List ℕ → Machine
idle_with a c cells = machine (idle_at a c) cells (replicate 20 255) (replicate 32 0)

-- idle, nothing protected, cells as given, the cache 77h: a read shows in it, and one that gives FFh too
abbrev pub idle_stale : List ℕ → Machine
idle_stale cells = over_store (with_cache (replicate 20 0x77)) (idle_with 0 0 cells)

-- an instruction: select, its bytes, deselect
abbrev pub send : List ℕ → List Record
send bytes = Select ∷ map Shift bytes ++ Deselect ∷ []

abbrev pub after : Machine → List Record → Machine
after m es = run bench (unitwise bench) m es

abbrev pub blank : List ℕ
blank = replicate 640 255

-- k, k + 1 and so on, n of them
abbrev pub counting_from : ℕ → ℕ → List ℕ
counting_from k zero = []
counting_from k (suc n) = k ∷ counting_from (suc k) n

-- the bytes of cells that tell where they are
abbrev pub telling_from : ℕ → ℕ → List ℕ
telling_from k n = map (λ i. i % 251) (counting_from k n)

abbrev pub told : List ℕ
told = telling_from 0 640

abbrev pub status : Machine → List ℕ
status m = m.state.regs.c0 ∷ []

abbrev pub number : Bool → ℕ
number b = cond b 1 0

abbrev pub guards : Geometry → ℕ → List ℕ → List ℕ
guards g a blocks = map (λ k. number (protects g a k)) blocks

-- which of 0 to 7 are protected on a part of 8 blocks
abbrev pub eight : ℕ → List ℕ
eight a = guards bench a (counting_from 0 8)

-- write enable, and a program of row 0
abbrev pub program : List Record
program = send (0x06 ∷ []) ++ send (0x10 ∷ 0 ∷ 0 ∷ 0 ∷ []) ++ Units 20 ∷ []

abbrev pub erase_five : List Record
erase_five = send (0x06 ∷ []) ++ send (0xD8 ∷ 0 ∷ 0 ∷ 5 ∷ [])

pub record Case : Type 0 where
  pub number : ℕ
  pub seen : List ℕ
  pub said : List ℕ

infix 80 ◌·◌⇒◌
abbrev pub ◌·◌⇒◌ : ℕ → List ℕ → List ℕ → Case
n · s ⇒ t = record { number = n; seen = s; said = t }

unfoldable pub cases : List Case
cases =
    1 · guards fm25s005bi3 8 (504 ∷ 503 ∷ []) ⇒ (1 ∷ 0 ∷ [])
    ∷ 2 · (eight 24 ++ eight 32 ++ eight 36) ⇒ (replicate 8 0 ++ (replicate 7 0 ++ 1 ∷ []) ++ 1 ∷ replicate 7 0)
    ∷ 3 · (eight 0 ++ eight 56) ⇒ (replicate 8 0 ++ replicate 8 1)
    ∷ 4 · take 1 (after (over_store (with_cache (replicate 20 0x0F)) (idle_with 0 0 (set blank 0 0xA5))) program).store.cells ⇒ (0x05 ∷ [])
    ∷ 5 · status (after (idle_with 0 0 blank) (send (0x10 ∷ 0 ∷ 0 ∷ 0 ∷ []))) ⇒ (0x00 ∷ [])
    ∷ 6 · status (after (idle_with 0x38 2 blank) (send (0x10 ∷ 0 ∷ 0 ∷ 0 ∷ []))) ⇒ (0x08 ∷ [])
    ∷ 7 · (let m = after (idle_with 0 0 blank) (program ++ program ++ program ++ program ++ program) in m.state.regs.c0 ∷ take 1 m.counts) ⇒ (8 ∷ 4 ∷ [])
    ∷ 8 · ((after (idle_stale told) (send (0x13 ∷ 0 ∷ 0 ∷ 31 ∷ []) ++ Units 20 ∷ [])).store.cache
    ++ (after (idle_stale told) (send (0x13 ∷ 0 ∷ 0 ∷ 32 ∷ []) ++ Units 20 ∷ [])).store.cache)
    ⇒ (telling_from 620 20 ++ replicate 20 255)
    ∷ 9 · status (after (idle_with 0 0 blank) (send (0x06 ∷ 0 ∷ []))) ⇒ (0 ∷ [])
    ∷ 10 · ((after (idle_with 0 0 blank) (send (0x1F ∷ 0xA0 ∷ 0xFF ∷ []))).state.regs.a0 ∷ []) ⇒ (0xBC ∷ [])
    ∷ 11 · (status (after (idle_with 0 0 blank) (Power ∷ Units 19 ∷ [])) ++ status (after (idle_with 0 0 blank) (Power ∷ Units 20 ∷ []))) ⇒ (1 ∷ 0 ∷ [])
    ∷ 12 · (after (idle_with 0 0 told) (erase_five ++ Units 80 ∷ [])).store.cells ⇒ (telling_from 0 80 ++ replicate 80 255 ++ telling_from 160 480)
    ∷ 13 · (after (idle_with 0 0 told) (erase_five ++ Units 30 ∷ send (0xFF ∷ []))).store.cells ⇒ (telling_from 0 80 ++ replicate 30 255 ++ telling_from 110 530)
    ∷ []

abbrev pub same_list : List ℕ → List ℕ → Bool
same_list [] [] = true
same_list [] (y ∷ ys) = false
same_list (x ∷ xs) [] = false
same_list (x ∷ xs) (y ∷ ys) = eqb x y && same_list xs ys

-- the numbers of the cases that are seen otherwise than said
abbrev pub wrong : List Case → List ℕ
wrong [] = []
wrong (c ∷ cs) = cond (same_list c.seen c.said) (wrong cs) (c.number ∷ wrong cs)

-- none is
abbrev pub AllCases : Type 0
AllCases = wrong cases ≡ []
